-- Sums over the numbers below n: one term, two terms, all terms, a change of one; of nothing, of two parts.
use mathlib.Core.Path.{◌≡◌, refl, sym, ◌∙◌}
use mathlib.Core.Logic.{◌≢◌}
use Prim.Native.Nat.{ℕ, zero, suc, ◌+◌, ◌<◌, ◌≤◌}
use native.Mathlib.Decide.{ℕ_discrete}
use native.Mathlib.Omega.{arith}
use Rattle.words.specs.Sums.{sum_to}

pub sum_one : (n : ℕ) (f : ℕ → ℕ) (s : ℕ) → s < n → f s ≤ sum_to n f
sum_one zero f s h = absurd (omega arith)
sum_one (suc n) f s h = go (ℕ_discrete s n) (sum_one n f s)
  where
    go : Dec (s ≡ n) → (s < n → f s ≤ sum_to n f) → f s ≤ sum_to (suc n) f
    go (yes e) ih = rw e (omega arith)
    go (no d) ih = omega (arith, ih (omega arith))

pub sum_two : (n : ℕ) (f : ℕ → ℕ) (s u : ℕ) → s < n → u < n → s ≢ u → f s + f u ≤ sum_to n f
sum_two zero f s u h k d = absurd (omega arith)
sum_two (suc n) f s u h k d = go (ℕ_discrete s n) (ℕ_discrete u n) (sum_two n f s u)
  where
    go : Dec (s ≡ n) → Dec (u ≡ n) → (s < n → u < n → s ≢ u → f s + f u ≤ sum_to n f) → f s + f u ≤ sum_to (suc n) f
    go (yes a) (yes b) ih = absurd (d (a ∙ sym b))
    go (yes a) (no b) ih = rw a (omega (arith, sum_one n f u (omega arith)))
    go (no a) (yes b) ih = rw b (omega (arith, sum_one n f s (omega arith)))
    go (no a) (no b) ih = omega (arith, ih (omega arith) (omega arith) d)

pub sum_same : (n : ℕ) (f g : ℕ → ℕ) → ((u : ℕ) → u < n → f u ≡ g u) → sum_to n f ≡ sum_to n g
sum_same zero f g e = refl
sum_same (suc n) f g e = omega (arith, sum_same n f g (λ u h. e u (omega arith)), e n (omega arith))

pub sum_change : (n : ℕ) (f g : ℕ → ℕ) (s : ℕ) → s < n → ((u : ℕ) → u < n → u ≢ s → f u ≡ g u) → sum_to n f + g s ≡ sum_to n g + f s
sum_change zero f g s h e = absurd (omega arith)
sum_change (suc n) f g s h e = go (ℕ_discrete s n) (λ k. sum_change n f g s k (λ u h. e u (omega arith)))
  where
    go : Dec (s ≡ n) → (s < n → sum_to n f + g s ≡ sum_to n g + f s) → sum_to (suc n) f + g s ≡ sum_to (suc n) g + f s
    go (yes a) ih = rw a (omega (arith, sum_same n f g (λ u k. e u (omega arith) (omega arith))))
    go (no a) ih = omega (arith, ih (omega arith), e n (omega arith) (omega arith))

pub sum_zero : (n : ℕ) → sum_to n (λ i. 0) ≡ 0
sum_zero zero = refl
sum_zero (suc n) = omega (arith, sum_zero n)

pub sum_none : (n : ℕ) (f : ℕ → ℕ) → ((u : ℕ) → u < n → f u ≡ 0) → sum_to n f ≡ 0
sum_none n f e = sum_same n f (λ i. 0) e ∙ sum_zero n

pub sum_add : (n : ℕ) (f g : ℕ → ℕ) → sum_to n (λ i. f i + g i) ≡ sum_to n f + sum_to n g
sum_add zero f g = omega arith
sum_add (suc n) f g = omega (arith, sum_add n f g)

pub sum_le : (n : ℕ) (f : ℕ → ℕ) → ((i : ℕ) → f i ≤ 1) → sum_to n f ≤ n
sum_le zero f h = omega arith
sum_le (suc n) f h = omega (arith, sum_le n f h, h n)
