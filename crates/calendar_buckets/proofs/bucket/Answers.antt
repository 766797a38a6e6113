-- A test decides between the leaf and the overflow table.
use mathlib.Core.Path.{ap, subst}
use Prim.Native.Nat.{ℕ, ◌+◌, ◌*◌, ◌<◌, ◌≤◌}
use native.Mathlib.Omega.{arith}
use Rattle.calendar_buckets.proofs.Puts.{in_leaf, in_overflow}
use Rattle.calendar_buckets.proofs.bucket.Goals as goal

pub returns-then-leaf-end : goal.returns-then-leaf-end
returns-then-leaf-end c =
    let args = c.args in
    let e = c.leaves-end.ensures.0 in (
      in_leaf _ _ args.s (subst (λ (m : ℕ). args.leaf < 16 * m) e c.if-leaf-end.true),
      omega arith,
      λ h. absurd (omega arith),
      omega (arith, c.leaves-end.ensures.1),
    )

pub returns : goal.returns
returns c =
    let args = c.args in
    let e = c.leaves-end.ensures.0 in (
      in_overflow _ _ args.s _ (subst (λ (m : ℕ). 16 * m ≤ args.leaf) e c.if-leaf-end.false) (ap (λ (m : ℕ). 16 * m + args.s) e),
      omega arith,
      λ h. omega arith,
      omega (arith, c.leaves-end.ensures.1),
    )
