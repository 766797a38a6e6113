-- How many digits a decimal has, and which stands last.
use mathlib.Core.Path.{◌≡◌, refl, sym, ap, ◌∙◌}
use mathlib.Core.Bool.{Bool, true, false}
use mathlib.Core.List.{List, [], ◌∷◌, ◌++◌}
use Prim.Native.Nat.{ℕ, zero, suc, ◌+◌, ◌/◌, ◌%◌, ◌^◌, ◌<◌, ◌≤◌}
use native.Mathlib.Omega.{arith}
use native.Mathlib.Nat.{pow-succ'}
use lib.Dec.{ltb}
use lib.ListN.{length, length-append}
use borrow.Author.Tests.{ltb-true, ltb-false}
use Rattle.text.specs.Decimal.{digits, decimal, Fits}
use Rattle.text.proofs.Tenths.{digits_one, digits_more}
use Rattle.text.proofs.Reading.{length_one, length_more}

-- as many places as it takes are enough
pub enough : (k v : ℕ) → digits (length (digits k v)) v ≡ digits k v
unfolding digits
enough zero v = refl
enough (suc k) v = go (ltb v 10) refl (enough k (v / 10))
  where
    go : (t : Bool) → ltb v 10 ≡ t → digits (length (digits k (v / 10))) (v / 10) ≡ digits k (v / 10) → digits (length (digits (suc k) v)) v ≡ digits (suc k) v
    go true e i =
        let l = ltb-true v 10 e in
        ap (λ (n : ℕ). digits n v) (ap length (digits_one k v l)) ∙ digits_one 0 v l ∙ sym (digits_one k v l)
    go false e i =
        let l = ltb-false v 10 e in
        let d = 48 + v % 10 in
        let n : length (digits (suc k) v) ≡ suc (length (digits k (v / 10))) =
        ap length (digits_more k v l) ∙ length-append (digits k (v / 10)) (d ∷ []) ∙ omega arith in
        ap (λ (m : ℕ). digits m v) n ∙ digits_more (length (digits k (v / 10))) v l ∙ ap (λ (ds : List ℕ). ds ++ (d ∷ [])) i ∙ sym (digits_more k v l)

pub at_most : (k v : ℕ) → length (digits k v) ≤ k
unfolding digits
at_most zero v = omega arith
at_most (suc k) v = go (ltb v 10) refl (at_most k (v / 10))
  where
    go : (t : Bool) → ltb v 10 ≡ t → length (digits k (v / 10)) ≤ k → length (digits (suc k) v) ≤ suc k
    go true e i = omega (arith, ap length (digits_one k v (ltb-true v 10 e)))
    go false e i = omega (arith, ap length (digits_more k v (ltb-false v 10 e)) ∙ length-append (digits k (v / 10)) ((48 + v % 10) ∷ []))

pub at_most_20 : (v : ℕ) → length (decimal v) ≤ 20
unfolding decimal
at_most_20 v = at_most 20 v

-- where all places are taken, the last digit stands after the others
pub last_digit : (k v : ℕ) → length (digits (suc k) v) ≡ suc k → digits (suc k) v ≡ digits k (v / 10) ++ ((48 + v % 10) ∷ [])
unfolding digits
last_digit k v e = go k (ltb v 10) refl e
  where
    go : (k : ℕ) (t : Bool) → ltb v 10 ≡ t → length (digits (suc k) v) ≡ suc k → digits (suc k) v ≡ digits k (v / 10) ++ ((48 + v % 10) ∷ [])
    go zero true t e = let l = ltb-true v 10 t in digits_one 0 v l ∙ ap (λ (n : ℕ). (48 + n) ∷ []) (omega arith)
    go (suc k) true t e = let l = ltb-true v 10 t in absurd (omega (arith, e, ap length (digits_one (suc k) v l)))
    go k false t e = digits_more k v (ltb-false v 10 t)

-- a number below a power of ten
pub few : (n v : ℕ) → Fits v → v < 10 ^ suc n → length (decimal v) ≤ suc n
few zero v f h = omega (arith, length_one v (omega arith))
few (suc n) v f h = go (ltb v 10) refl (few n (v / 10) (omega arith) (omega (arith, pow-succ' 10 (suc n))))
  where
    go : (t : Bool) → ltb v 10 ≡ t → length (decimal (v / 10)) ≤ suc n → length (decimal v) ≤ suc (suc n)
    go true e i = omega (arith, length_one v (ltb-true v 10 e))
    go false e i = omega (arith, length_more v f (ltb-false v 10 e))

-- a number of 32 bits
pub at_most_10 : (v : ℕ) → v < 2 ^ 32 → length (decimal v) ≤ 10
at_most_10 v h = few 9 v (omega arith) (omega arith)
