-- A place in a ring lies between two nodes of it: the last of the nodes before it and the first of those after it, where the sentinel ends both.
use mathlib.Core.Path.{◌≡◌}
use mathlib.Core.List.{List, [], ◌∷◌, ◌++◌, append_assoc, append-nil}
use Prim.Native.Nat.{ℕ, ◌<◌, ◌≤◌}
use native.Mathlib.Omega.{arith}
use lib.ListN.{length}
use Rattle.rings.specs.Ring.{occurs, last_of, head_of, Run, Ring}
use Rattle.rings.proofs.Counts.{under, occurs_append, occurs_last, occurs_head}
use Rattle.rings.proofs.Sums.{at_most}
use Rattle.rings.proofs.Runs.{run_split, run_first}

module _ {nx pv : ℕ → ℕ} {n s : ℕ} where
  -- a node of a ring is below n, and so are all of them together
  pub below : {xs : List ℕ} → Ring nx pv n s xs → (i : ℕ) → 1 ≤ occurs i (s ∷ xs) → i < n
  below {xs} R i h = under n (s ∷ xs) R.within i h

  pub ring_length : {xs : List ℕ} → Ring nx pv n s xs → length xs < n
  ring_length {xs} R = omega (arith, at_most n (s ∷ xs) R.within R.once)

  -- the place after ys
  module _ (ys zs : List ℕ) (R : Ring nx pv n s (ys ++ zs)) where
    pub parted : Run nx pv s ys × Run nx pv (last_of s ys) (zs ++ s ∷ [])
    parted = run_split nx pv s ys (zs ++ s ∷ []) (rw append_assoc at R.run)

    pub next_at : nx (last_of s ys) ≡ head_of zs s
    next_at = (run_first nx pv (last_of s ys) zs s parted.1).0

    pub prev_at : pv (head_of zs s) ≡ last_of s ys
    prev_at = (run_first nx pv (last_of s ys) zs s parted.1).1

    pub last_in : 1 ≤ occurs (last_of s ys) (s ∷ ys ++ zs)
    last_in = omega (arith, occurs_last s ys, occurs_append (last_of s ys) ys zs)

    pub head_in : 1 ≤ occurs (head_of zs s) (s ∷ ys ++ zs)
    head_in = omega (arith, occurs_head zs s, occurs_append (head_of zs s) ys zs)

  -- after a node x
  pub next_of_lem : (ys : List ℕ) (x : ℕ) (zs : List ℕ) → Ring nx pv n s (ys ++ x ∷ zs) → nx x ≡ head_of zs s
  next_of_lem ys x zs R = (run_first nx pv x zs s (parted ys (x ∷ zs) R).1.2).0

  -- the sentinel's own links
  pub first_of : {xs : List ℕ} → Ring nx pv n s xs → nx s ≡ head_of xs s
  first_of {xs} R = next_at [] xs R

  pub last_of_lem : {xs : List ℕ} → Ring nx pv n s xs → pv s ≡ last_of s xs
  last_of_lem {xs} R = let E : Ring nx pv n s (xs ++ []) = rw append-nil R in prev_at xs [] E
