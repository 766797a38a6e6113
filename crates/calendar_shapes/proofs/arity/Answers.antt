-- One bit.
use mathlib.Core.Path.{◌∙◌, subst, sym}
use Prim.Native.Nat.{ℕ, ◌^◌, ◌≤◌}
use native.Mathlib.Nat.{one-mul}
use native.Mathlib.Omega.{arith}
use lib.Dec.{lit<}
use lib.Pow.{shl_exact}
use Rattle.calendar_shapes.proofs.Powers.{row_sizes, by_exponent}
use Rattle.calendar_shapes.proofs.arity.Goals as goal

pub returns : goal.returns
returns c =
    let k = c.exponent.result in
    let row = c.args.row in
    let e = shl_exact 1 k 32 (lit< tt) (omega (arith, c.exponent.ensures)) ∙ one-mul (2 ^ k) ∙ by_exponent k row c.exponent.ensures in
    (e, subst (λ (y : ℕ). y ≤ 64) (sym e) (row_sizes row).high)
