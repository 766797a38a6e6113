-- One bit, at twice the exponent.
use mathlib.Core.Path.{◌≡◌, ap, ◌∙◌, subst, sym}
use Prim.Native.Nat.{ℕ, ◌+◌, ◌*◌, ◌^◌, ◌≤◌}
use native.Mathlib.Nat.{one-mul}
use native.Mathlib.Omega.{arith}
use lib.Dec.{lit<}
use lib.Pow.{shl_exact, pow-add}
use Rattle.calendar_shapes.proofs.Powers.{row_sizes, by_exponent}
use Rattle.calendar_shapes.proofs.leaves.Goals as goal

pub returns : goal.returns
returns c =
    let k = c.exponent-n.result in
    let row = c.args.row in
    let e : 2 * k ≡ k + k = omega arith in
    let p = by_exponent k row c.exponent-n.ensures in
    let w =
    shl_exact 1 (2 * k) 32 (lit< tt) (omega (arith, c.exponent-n.ensures)) ∙ one-mul (2 ^ (2 * k)) ∙ ap (λ (n : ℕ). 2 ^ n) e ∙ pow-add 2 k k
    ∙ ap (λ (n : ℕ). n * n) p in
    (w, subst (λ (y : ℕ). y ≤ 4096) (sym w) (row_sizes row).most)
