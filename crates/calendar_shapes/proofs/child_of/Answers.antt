-- The remainder by a power of two.
use mathlib.Core.Path.{◌≡◌, ap, ◌∙◌, subst, sym}
use Prim.Native.Nat.{ℕ, ◌+◌, ◌*◌, ◌%◌, ◌^◌, ◌<◌}
use native.Mathlib.Nat.{one-mul, mod-lt}
use native.Mathlib.Omega.{arith}
use lib.Dec.{lit<}
use lib.Pow.{shl_exact}
use Rattle.calendar_shapes.specs.Rule.{arity_in}
use Rattle.calendar_shapes.proofs.Powers.{row_sizes, by_exponent}
use Rattle.calendar_shapes.proofs.child_of.Goals as goal

one : (k row : ℕ) → k ≡ 3 + row % 4 → 1 * 2 ^ k % 2 ^ 32 ≡ arity_in row
one k row e = shl_exact 1 k 32 (lit< tt) (omega arith) ∙ one-mul (2 ^ k) ∙ by_exponent k row e

some : (row : ℕ) → 0 < arity_in row
some row = omega (arith, (row_sizes row).low)

pub nonzero_rem-result : goal.nonzero_rem-result
nonzero_rem-result c = let args = c.args in rw (one _ args.row c.exponent.ensures) (some args.row)

pub returns : goal.returns
returns c =
    let args = c.args in
    let e = ap (λ (m : ℕ). args.l % m) (one _ args.row c.exponent.ensures) in
    (e, subst (λ (y : ℕ). y < arity_in args.row) (sym e) (mod-lt args.l (some args.row)))
