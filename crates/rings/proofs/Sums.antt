-- Distinct nodes below n are at most n, by sums of how often each stands in a list.
use mathlib.Core.Path.{◌≡◌, sym}
use mathlib.Core.List.{List, [], ◌∷◌}
use Prim.Native.Nat.{ℕ, zero, suc, ◌<◌, ◌≤◌}
use native.Mathlib.Decide.{dec_lt}
use native.Mathlib.Omega.{arith}
use lib.ListN.{length}
use Rattle.words.specs.Sums.{sum_to}
use Rattle.words.proofs.Sums.{sum_zero, sum_none, sum_add, sum_le}
use Rattle.rings.specs.Ring.{hit, occurs}
use Rattle.rings.proofs.Counts.{hit_same, hit_ne}

-- ---- the length of a list is the sum of its counts

sum_hit : (n x : ℕ) → x < n → sum_to n (λ i. hit i x) ≡ 1
sum_hit zero x h = absurd (omega arith)
sum_hit (suc n) x h = go (dec_lt x n) (sum_hit n x)
  where
    go : Dec (x < n) → (x < n → sum_to n (λ i. hit i x) ≡ 1) → sum_to (suc n) (λ i. hit i x) ≡ 1
    go (yes l) ih = omega (arith, ih l, hit_ne n x (omega arith))
    go (no f) ih =
        let e : x ≡ n = omega arith in
        rw e (omega (arith, sum_none n (λ i. hit i n) (λ u k. hit_ne u n (omega arith)), hit_same n))

module _ (n : ℕ) where
  count : (l : List ℕ) → ((i : ℕ) → n ≤ i → occurs i l ≡ 0) → length l ≡ sum_to n (λ i. occurs i l)
  count [] w = sym (sum_zero n)
  count (x ∷ l) w =
      omega (arith, count l (λ i h. omega (arith, w i h)), sum_add n (λ i. hit i x) (λ i. occurs i l), sum_hit n x (inside (dec_lt x n)))
    where
      inside : Dec (x < n) → x < n
      inside (yes h) = h
      inside (no f) = absurd (omega (arith, w x (omega arith), hit_same x))

  pub at_most : (l : List ℕ) → ((i : ℕ) → n ≤ i → occurs i l ≡ 0) → ((i : ℕ) → occurs i l ≤ 1) → length l ≤ n
  at_most l w o = omega (arith, count l w, sum_le n (λ i. occurs i l) o)
