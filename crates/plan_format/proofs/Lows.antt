-- A loop that counts up finds the lowest number that passes a test.
use Prim.Native.Nat.{ℕ, zero, suc, ◌+◌, ◌≤◌, ◌<◌}
use native.Mathlib.Nat.{not-suc-le-zero}
use native.Mathlib.Numerals.{add-one}
use native.Mathlib.Omega.{arith}
use mathlib.Core.Path.{◌≡◌, refl, sym}
use mathlib.Core.Bool.{Bool, true, false, cond}
use lib.Dec.{ltb}
use borrow.Author.Tests.{le-ltb, ltb-true, ltb-false}
use Rattle.plan_format.specs.Lowest.{lowest}
use Rattle.plan_format.specs.Reading.{any}

-- none below 0
pub lowest_zero : (f : ℕ → Bool) → lowest f 0 ≡ 0
unfolding lowest
lowest_zero f = refl

-- none below k, and not k: none below k + 1
lowest_next : (f : ℕ → Bool) (k : ℕ) → lowest f k ≡ k → f k ≡ false → lowest f (k + 1) ≡ k + 1
unfolding lowest
lowest_next f k e h = rw (add-one, lowest, e, le-ltb k k (omega arith), h)

at_suc : (f : ℕ → Bool) (k m : ℕ) → lowest f k ≡ k → f k ≡ true → (k < m → lowest f m ≡ k) → k ≤ m → lowest f (suc m) ≡ k
unfolding lowest
at_suc f k m e h below l = by_test (ltb k m) refl
  where
    by_test : (t : Bool) → ltb k m ≡ t → cond (ltb (lowest f m) m) (lowest f m) (cond (f m) m (suc m)) ≡ k
    by_test true t = let i = below (ltb-true k m t) in rw (i, t)
    by_test false t = let q : m ≡ k = omega (arith, ltb-false k m t) in rw (q, e, le-ltb k k (omega arith), h)

-- none below k, and k passes: k is the lowest
pub lowest_found : (f : ℕ → Bool) (k n : ℕ) → lowest f k ≡ k → f k ≡ true → k < n → k ≡ lowest f n
lowest_found f k n e h l = sym (go n l)
  where
    go : (m : ℕ) → k < m → lowest f m ≡ k
    go zero b = absurd (not-suc-le-zero b)
    go (suc m) b = at_suc f k m e h (go m) (omega arith)

lowest_le : (f : ℕ → Bool) (n : ℕ) → lowest f n ≤ n
unfolding lowest
lowest_le f zero = omega arith
lowest_le f (suc m) = cases (lowest_le f m) (ltb (lowest f m) m) (f m)
  where
    cases : lowest f m ≤ m → (t u : Bool) → cond t (lowest f m) (cond u m (suc m)) ≤ suc m
    cases i true u = omega arith
    cases i false true = omega arith
    cases i false false = omega arith

pub lowest_full : (f : ℕ → Bool) (n : ℕ) → n ≤ lowest f n → lowest f n ≡ n
lowest_full f n h = omega (arith, lowest_le f n)

peel : (f : ℕ → Bool) (m : ℕ) → lowest f (suc m) ≡ suc m → (lowest f m ≡ m) × (f m ≡ false)
unfolding lowest
peel f m e = cases (ltb (lowest f m) m) (f m) refl refl e
  where
    cases : (t u : Bool) → ltb (lowest f m) m ≡ t → f m ≡ u → cond t (lowest f m) (cond u m (suc m)) ≡ suc m → (lowest f m ≡ m) × (f m ≡ false)
    cases true u p q h = absurd (omega (arith, ltb-true (lowest f m) m p, h))
    cases false true p q h = absurd (omega (arith, h))
    cases false false p q h = (omega (arith, ltb-false (lowest f m) m p, lowest_le f m), q)

-- where none is found, each fails
pub lowest_none : (f : ℕ → Bool) (n k : ℕ) → lowest f n ≡ n → k < n → f k ≡ false
lowest_none f zero k e l = absurd (not-suc-le-zero l)
lowest_none f (suc m) k e l = cases (lowest_none f m k (peel f m e).0) (ltb k m) refl
  where
    cases : (k < m → f k ≡ false) → (t : Bool) → ltb k m ≡ t → f k ≡ false
    cases below true t = below (ltb-true k m t)
    cases below false t = let q : k ≡ m = omega (arith, ltb-false k m t) in rw q (peel f m e).1

-- where each fails, none is found
pub lowest_all : (f : ℕ → Bool) (n : ℕ) → ((k : ℕ) → k < n → f k ≡ false) → lowest f n ≡ n
unfolding lowest
lowest_all f zero h = refl
lowest_all f (suc n) h = rw add-one at (lowest_next f n (lowest_all f n (λ k l. h k (omega arith))) (h n (omega arith)))

-- ---- the same of the test whether some number passes

pub any_none : (f : ℕ → Bool) (n k : ℕ) → any f n ≡ false → k < n → f k ≡ false
any_none f n k e l = lowest_none f n k (omega (arith, lowest_le f n, ltb-false (lowest f n) n e)) l

pub any_all : (f : ℕ → Bool) (n : ℕ) → ((k : ℕ) → k < n → f k ≡ false) → any f n ≡ false
any_all f n h = le-ltb (lowest f n) n (omega (arith, lowest_all f n h))
