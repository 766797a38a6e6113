-- On a ring a walk forward or back, past nodes at which it does not stop, ends at the node after them, and fuel for n steps is enough.
use mathlib.Core.Path.{◌≡◌, ◌∙◌}
use mathlib.Core.Bool.{Bool, true, false}
use mathlib.Core.List.{List, [], ◌∷◌, ◌++◌, append-nil, reverse, reverse-cons, reverse-append}
use Prim.Native.Nat.{ℕ, ◌-◌, ◌≤◌}
use native.Mathlib.Omega.{arith}
use lib.ListN.{length, length-append}
use Rattle.rings.specs.Ring.{last_of, head_of, Run, Ring}
use Rattle.rings.specs.Walk.{steps, Passes}
use Rattle.rings.proofs.Runs.{run_first}
use Rattle.rings.proofs.Mirror.{mirror, head_reverse}
use Rattle.rings.proofs.Places.{parted, ring_length}
use Rattle.rings.proofs.WalkSteps.{at_stop, at_step}

steps_run : (nx pv : ℕ → ℕ) (stop : ℕ → Bool) (s p : ℕ) (ys zs : List ℕ) (fuel : ℕ) → Passes stop ys → stop (head_of zs s) ≡ true → length ys ≤ fuel
    → Run nx pv p ((ys ++ zs) ++ s ∷ []) → steps nx stop fuel (head_of (ys ++ zs) s) ≡ head_of zs s
steps_run nx pv stop s p [] zs fuel b h f r = at_stop nx stop fuel (head_of zs s) h
steps_run nx pv stop s p (y ∷ ys) zs fuel b h f r =
    at_step nx stop fuel y (omega arith) b.0
    ∙ rw (run_first nx pv y (ys ++ zs) s r.2).0 (steps_run nx pv stop s y ys zs (fuel - 1) b.1 h (omega arith) r.2)

passes_snoc : (stop : ℕ → Bool) (xs : List ℕ) (x : ℕ) → Passes stop xs → stop x ≡ false → Passes stop (xs ++ x ∷ [])
passes_snoc stop [] x p e = (e, tt)
passes_snoc stop (y ∷ ys) x p e = (p.0, passes_snoc stop ys x p.1 e)

passes_reverse : (stop : ℕ → Bool) (xs : List ℕ) → Passes stop xs → Passes stop (reverse xs)
passes_reverse stop [] p = tt
passes_reverse stop (x ∷ xs) p = rw reverse-cons (passes_snoc stop (reverse xs) x (passes_reverse stop xs p.1) p.0)

module _ {nx pv : ℕ → ℕ} {n s : ℕ} (stop : ℕ → Bool) (fuel : ℕ) (enough : n ≤ fuel) where
  -- from the first node of ys on, past ys, to the first of zs, or to the sentinel where there is none
  pub walk_on : (ws ys zs : List ℕ) → Ring nx pv n s (ws ++ (ys ++ zs)) → Passes stop ys → stop (head_of zs s) ≡ true
      → steps nx stop fuel (head_of (ys ++ zs) s) ≡ head_of zs s
  walk_on ws ys zs R p h =
      steps_run nx pv stop s (last_of s ws) ys zs fuel p h
      (omega (arith, ring_length R, length-append ws (ys ++ zs), length-append ys zs))
      (parted ws (ys ++ zs) R).1

module _ {nx pv : ℕ → ℕ} {n s : ℕ} (stop : ℕ → Bool) (fuel : ℕ) (enough : n ≤ fuel) where
  -- from the last node of zs back, past zs, to the last of ys, or to the sentinel where there is none
  pub walk_back : (ys zs ws : List ℕ) → Ring nx pv n s ((ys ++ zs) ++ ws) → Passes stop zs → stop (last_of s ys) ≡ true
      → steps pv stop fuel (last_of s (ys ++ zs)) ≡ last_of s ys
  walk_back ys zs ws R p h =
      let M : Ring pv nx n s (reverse ws ++ (reverse zs ++ reverse ys)) = rw (reverse-append, reverse-append) at (mirror R) in
      let w = walk_on stop fuel enough (reverse ws) (reverse zs) (reverse ys) M (passes_reverse stop zs p) (rw head_reverse h) in
      rw (← reverse-append ys zs, head_reverse (ys ++ zs) s, head_reverse ys s) at w

  pub walk_back_last : (ys zs : List ℕ) → Ring nx pv n s (ys ++ zs) → Passes stop zs → stop (last_of s ys) ≡ true
      → steps pv stop fuel (last_of s (ys ++ zs)) ≡ last_of s ys
  walk_back_last ys zs R p h = walk_back ys zs [] (rw append-nil R) p h
