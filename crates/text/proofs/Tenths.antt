-- A decimal is one digit, or the decimal of a tenth and one digit after it.
use mathlib.Core.Path.{◌≡◌, refl, sym, ap, ◌∙◌}
use mathlib.Core.Bool.{Bool, true, false}
use mathlib.Core.List.{List, [], ◌∷◌, ◌++◌}
use Prim.Native.Nat.{ℕ, zero, suc, ◌+◌, ◌/◌, ◌%◌, ◌^◌, ◌<◌, ◌≤◌}
use native.Mathlib.Omega.{arith}
use native.Mathlib.Nat.{pow-succ'}
use lib.Dec.{ltb}
use borrow.Author.Tests.{lt-ltb, le-ltb, ltb-true, ltb-false}
use Rattle.text.specs.Decimal.{digits, decimal, Fits}

pub digits_one : (k v : ℕ) → v < 10 → digits (suc k) v ≡ (48 + v) ∷ []
unfolding digits
digits_one k v h = rw (lt-ltb v 10 h)

pub digits_more : (k v : ℕ) → 10 ≤ v → digits (suc k) v ≡ digits k (v / 10) ++ ((48 + v % 10) ∷ [])
unfolding digits
digits_more k v h = rw (le-ltb v 10 h)

-- more places than a number needs change nothing
pub spare : (k v : ℕ) → v < 10 ^ suc k → digits (suc (suc k)) v ≡ digits (suc k) v
spare zero v h = digits_one 1 v (omega arith) ∙ sym (digits_one 0 v (omega arith))
spare (suc k) v h = go (ltb v 10) refl (spare k (v / 10) (omega (arith, pow-succ' 10 (suc k))))
  where
    go : (t : Bool) → ltb v 10 ≡ t → digits (suc (suc k)) (v / 10) ≡ digits (suc k) (v / 10) → digits (suc (suc (suc k))) v ≡ digits (suc (suc k)) v
    go true e i = let l = ltb-true v 10 e in digits_one (suc (suc k)) v l ∙ sym (digits_one (suc k) v l)
    go false e i =
        let l = ltb-false v 10 e in
        digits_more (suc (suc k)) v l ∙ ap (λ (ds : List ℕ). ds ++ ((48 + v % 10) ∷ [])) i ∙ sym (digits_more (suc k) v l)

pub decimal_one : (v : ℕ) → v < 10 → decimal v ≡ (48 + v) ∷ []
unfolding decimal
decimal_one v h = digits_one 19 v h

pub decimal_more : (v : ℕ) → Fits v → 10 ≤ v → decimal v ≡ decimal (v / 10) ++ ((48 + v % 10) ∷ [])
unfolding decimal
decimal_more v f h = digits_more 19 v h ∙ ap (λ (ds : List ℕ). ds ++ ((48 + v % 10) ∷ [])) (sym (spare 18 (v / 10) (omega arith)))

-- what holds of the digits, and of a number where it holds of its tenth, holds of all
pub by_tenths : (P : ℕ → Type 0) → ((v : ℕ) → v < 10 → P v) → ((v : ℕ) → 10 ≤ v → P (v / 10) → P v) → (v : ℕ) → P v
by_tenths P one more v = below v v (omega arith)
  where
    below : (k v : ℕ) → v ≤ k → P v
    below zero v h = one v (omega arith)
    below (suc k) v h = go (ltb v 10) refl (λ l. below k (v / 10) (omega arith))
      where
        go : (t : Bool) → ltb v 10 ≡ t → (10 ≤ v → P (v / 10)) → P v
        go true e i = one v (ltb-true v 10 e)
        go false e i = let l = ltb-false v 10 e in more v l (i l)
