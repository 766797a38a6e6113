-- A ring read backwards is a ring: of the reversed list, with the two readings exchanged.
use mathlib.Core.Path.{◌≡◌, refl, ◌∙◌}
use mathlib.Core.List.{List, [], ◌∷◌, ◌++◌, reverse, reverse-cons}
use Prim.Native.Nat.{ℕ}
use native.Mathlib.Omega.{arith}
use Rattle.rings.specs.Ring.{occurs, last_of, head_of, Run, Ring}
use Rattle.rings.proofs.Counts.{occurs_append}
use Rattle.rings.proofs.Runs.{run_join}

-- ---- ends and counts

pub last_snoc : (a : ℕ) (xs : List ℕ) (x : ℕ) → last_of a (xs ++ x ∷ []) ≡ x
last_snoc a [] x = refl
last_snoc a (y ∷ ys) x = last_snoc y ys x

head_snoc : (xs : List ℕ) (a e : ℕ) → head_of (xs ++ a ∷ []) e ≡ head_of xs a
head_snoc [] a e = refl
head_snoc (x ∷ xs) a e = refl

pub head_reverse : (xs : List ℕ) (s : ℕ) → head_of (reverse xs) s ≡ last_of s xs
head_reverse [] s = refl
head_reverse (x ∷ xs) s = rw reverse-cons (head_snoc (reverse xs) x s ∙ head_reverse xs x)

pub occurs_reverse : (i : ℕ) (xs : List ℕ) → occurs i (reverse xs) ≡ occurs i xs
occurs_reverse i [] = refl
occurs_reverse i (x ∷ xs) = rw reverse-cons (omega (arith, occurs_append i (reverse xs) (x ∷ []), occurs_reverse i xs))

-- ---- runs and rings

module _ (nx pv : ℕ → ℕ) where
  run_mirror : (a : ℕ) (xs : List ℕ) (b : ℕ) → Run nx pv a (xs ++ b ∷ []) → Run pv nx b (reverse xs ++ a ∷ [])
  run_mirror a [] b r = (r.1, r.0, tt)
  run_mirror a (x ∷ xs) b r =
      rw reverse-cons
      (run_join pv nx b (reverse xs ++ x ∷ []) (a ∷ []) (run_mirror x xs b r.2) (rw (last_snoc b (reverse xs) x) (r.1, r.0, tt)))

pub mirror : {nx pv : ℕ → ℕ} {n s : ℕ} {xs : List ℕ} → Ring nx pv n s xs → Ring pv nx n s (reverse xs)
mirror {nx} {pv} {n} {s} {xs} R =
    record {
      run = run_mirror nx pv s xs s R.run;
      once = λ i. omega (arith, R.once i, occurs_reverse i xs);
      within = λ i h. omega (arith, R.within i h, occurs_reverse i xs);
    }
