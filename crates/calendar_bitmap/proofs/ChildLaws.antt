-- Counting leading zeros finds the first child, and an or with one bit sets one child, which an exclusive or then clears: each law once, for every
-- number a of children.
use mathlib.Core.Path.{◌≡◌, refl, sym, ap, ◌∙◌, subst}
use mathlib.Core.Bool.{true, false}
use mathlib.Core.Logic.{◌⊎◌, inl, inr}
use Prim.Native.Nat.{ℕ, zero, suc, ◌+◌, ◌-◌, ◌%◌, ◌^◌, ◌≤◌, ◌<◌, max}
use native.Mathlib.Nat.{lt_of_lt_of_le, lt_irrefl, eq-zero-or-pos, mod-lt, mod-one, mod-eq_of_lt, max-zero, max-eq_right}
use native.Mathlib.Omega.{arith}
use lib.Pow.{pow_pos, pow_mono, pow-lt}
use lib.Bits.{bit_or, bit_xor, or_lt, xor_lt, differ}
use lib.Count.{count_leading_zeros, leading_top, leading_of_zero, leading_le}
use Rattle.calendar_bitmap.specs.Child.{Arity, child}
use Rattle.calendar_bitmap.specs.Promises.{FirstChild, FirstFrom, WithChild}
use Rattle.words.proofs.Cases.{lt_or}
use Rattle.calendar_bitmap.proofs.Bits.{bit, bit_lt, bit_zero, bit_high, bit_top, bit_or_lem, bit_xor_lem, bit_pow_same, bit_pow_other, bit_mod}

pub child_zero : (a i : ℕ) → child a 0 i ≡ 0
unfolding child
child_zero a i = bit_zero (a - 1 - i)

-- ---- the first child that is set

pub leading_first : (a x : ℕ) → x < 2 ^ a → FirstChild a x (count_leading_zeros a x)
unfolding child
leading_first a x h = go (eq-zero-or-pos x)
  where
    go : (x ≡ 0) ⊎ (0 < x) → FirstChild a x (count_leading_zeros a x)
    go (inl e) = record {
      within = leading_le a x;
      none = λ _. ap (count_leading_zeros a) e ∙ leading_of_zero a;
      some = λ n. absurd (n e);
      set = λ l. absurd (lt_irrefl a (subst (λ (k : ℕ). k < a) (ap (count_leading_zeros a) e ∙ leading_of_zero a) l));
      before = λ k l. rw e (bit_zero (a - 1 - k));
    }
    go (inr p) =
        let t = leading_top a x p h in
        let j : ℕ = t.0 in
        let e : count_leading_zeros a x + suc j ≡ a = t.1 in
        record {
          within = leading_le a x;
          none = λ z. absurd (omega arith);
          some = λ n. omega (arith, e);
          set = λ l. let q : a - 1 - count_leading_zeros a x ≡ j = omega (arith, e) in rw q (bit_top x j t.2 t.3);
          before = λ k l. bit_high x (a - 1 - k) (lt_of_lt_of_le t.3 (pow_mono (omega (arith, e))));
        }

-- the leading zeros of the low w bits of x, m words in all, where w is the arity
pub leading_wide : (w m x : ℕ) {a : ℕ} → a ≡ w → m ≡ 2 ^ w → FirstChild a (x % 2 ^ a) (count_leading_zeros w (x % m))
leading_wide w m x e q = rw (e, q) (leading_first w (x % 2 ^ w) (mod-lt x (pow_pos w)))

-- a word that fits is its own remainder
pub first_fits : {a x r : ℕ} → (Arity a → FirstChild a (x % 2 ^ a) r) → Arity a → x < 2 ^ a → FirstChild a x r
first_fits {a} {x} {r} F k l = subst (λ (y : ℕ). FirstChild a y r) (mod-eq_of_lt l) (F k)

pub no_arity : (a : ℕ) → (a ≡ 8 → ⊥) → (a ≡ 16 → ⊥) → (a ≡ 32 → ⊥) → (a ≡ 64 → ⊥) → Arity a → ⊥
no_arity a p q r s (inl e) = p e
no_arity a p q r s (inr (inl e)) = q e
no_arity a p q r s (inr (inr (inl e))) = r e
no_arity a p q r s (inr (inr (inr e))) = s e

-- the remainder by 2 ^ (a - i) has the children from i on, and no other
rest_same : (a x i k : ℕ) → i ≤ k → k < a → child a (x % 2 ^ (a - i)) k ≡ child a x k
unfolding child
rest_same a x i k l h =
    let e : a - i ≡ suc (k - i) + (a - 1 - k) = omega arith in
    ap (λ (m : ℕ). bit (x % 2 ^ m) (a - 1 - k)) e ∙ bit_mod x (k - i) (a - 1 - k)

rest_none : (a x i k : ℕ) → k < i → i < a → child a (x % 2 ^ (a - i)) k ≡ 0
unfolding child
rest_none a x i k l h = bit_high (x % 2 ^ (a - i)) (a - 1 - k) (lt_of_lt_of_le (mod-lt x (pow_pos (a - i))) (pow_mono (omega arith)))

rest_some : (a x i r : ℕ) → i < a → FirstChild a (x % 2 ^ (a - i)) r → FirstFrom a x i r
rest_some a x i r h F = record {
  within = F.within;
  from = from;
  set = λ l. sym (rest_same a x i r (from l) l) ∙ F.set l;
  before = λ k lk l. sym (rest_same a x i k lk (omega (arith, F.within))) ∙ F.before k l;
}
  where
    from : r < a → i ≤ r
    from l = go (lt_or r i)
      where
        go : (r < i) ⊎ (i ≤ r) → i ≤ r
        go (inl q) = absurd (let e : 1 ≡ 0 = sym (F.set l) ∙ rest_none a x i r q h in omega arith)
        go (inr q) = q

rest_lt : (a x i : ℕ) → x % 2 ^ (a - i) < 2 ^ a
rest_lt a x i = lt_of_lt_of_le (mod-lt x (pow_pos (a - i))) (pow_mono (omega arith))

-- from the last child on there is none
rest_past : (a x i r : ℕ) → a ≤ i → FirstChild a (x % 2 ^ (a - i)) r → FirstFrom a x i r
rest_past a x i r h F =
    let z : a - i ≡ 0 = omega arith in
    let e : r ≡ a = F.none (ap (λ (n : ℕ). x % 2 ^ n) z ∙ mod-one x) in
    record { within = F.within; from = λ l. absurd (omega arith); set = λ l. absurd (omega arith); before = λ k p l. absurd (omega arith) }

pub rest_first : (a x i r y : ℕ) → y ≡ x % 2 ^ (a - i) → FirstChild a (y % 2 ^ a) r → FirstFrom a x i r
rest_first a x i r y e F = go (lt_or i a)
  where
    F' : FirstChild a (x % 2 ^ (a - i)) r
    F' = subst (λ (m : ℕ). FirstChild a m r) (ap (λ (m : ℕ). m % 2 ^ a) e ∙ mod-eq_of_lt (rest_lt a x i)) F

    go : (i < a) ⊎ (a ≤ i) → FirstFrom a x i r
    go (inl l) = rest_some a x i r l F'
    go (inr l) = rest_past a x i r l F'

-- ---- one child changed

differ_zero : (n : ℕ) → differ n 0 ≡ n
differ_zero zero = refl
differ_zero (suc n) = refl

-- p is the word in which child i alone is set
pub child_on : (a x i p : ℕ) → p ≡ 2 ^ (a - 1 - i) → i < a → WithChild a x i true (bit_or x p)
unfolding child
child_on a x i p e l =
    let m : ℕ = a - 1 - i in
    subst (λ (q : ℕ). WithChild a x i true (bit_or x q)) (sym e)
    record {
      fits = λ h. or_lt a x (2 ^ m) h (pow-lt (omega arith));
      this = bit_or_lem x (2 ^ m) m ∙ ap (max (bit x m)) (bit_pow_same m) ∙ max-eq_right (omega (arith, bit_lt x m));
      others = λ k kl ne.
          bit_or_lem x (2 ^ m) (a - 1 - k) ∙ ap (max (bit x (a - 1 - k))) (bit_pow_other m (a - 1 - k) (omega arith)) ∙ max-zero (bit x (a - 1 - k));
    }

-- a child that is set is clear after an exclusive or with its word
pub child_off : (a x i p y : ℕ) → p ≡ 2 ^ (a - 1 - i) → i < a → WithChild a x i true y → WithChild a x i false (bit_xor y p)
unfolding child
child_off a x i p y e l W =
    let m : ℕ = a - 1 - i in
    subst (λ (q : ℕ). WithChild a x i false (bit_xor y q)) (sym e)
    record {
      fits = λ h. xor_lt a y (2 ^ m) (W.fits h) (pow-lt (omega arith));
      this = bit_xor_lem y (2 ^ m) m ∙ ap (differ (bit y m)) (bit_pow_same m) ∙ ap (λ (b : ℕ). differ b 1) W.this;
      others = λ k kl ne.
          bit_xor_lem y (2 ^ m) (a - 1 - k) ∙ ap (differ (bit y (a - 1 - k))) (bit_pow_other m (a - 1 - k) (omega arith))
          ∙ differ_zero (bit y (a - 1 - k)) ∙ W.others k kl ne;
    }
