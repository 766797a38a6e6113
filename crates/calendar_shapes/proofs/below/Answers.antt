-- A shift to the left that loses no bit.
use mathlib.Core.Path.{◌≡◌, ap, ◌∙◌, subst, sym}
use Prim.Native.Nat.{ℕ, ◌*◌, ◌%◌, ◌^◌, ◌≤◌}
use native.Mathlib.Nat.{mul-le-mul_left}
use native.Mathlib.Omega.{arith}
use lib.Pow.{shl_exact}
use Rattle.calendar_shapes.specs.Rule.{arity_in}
use Rattle.calendar_shapes.proofs.Powers.{row_sizes, by_exponent}
use Rattle.calendar_shapes.proofs.below.Goals as goal

pub returns : goal.returns
returns c =
    let args = c.args in
    let exponent = c.exponent in
    let arity = by_exponent _ args.row exponent.ensures in
    record {
      any = ap (λ (m : ℕ). args.j * m % 4294967296) arity;
      fits = λ l.
          let e : args.j * 2 ^ exponent.result % 2 ^ 32 ≡ args.j * arity_in args.row =
          shl_exact 26 exponent.result 32 l (omega (arith, exponent.ensures)) ∙ ap (λ (m : ℕ). args.j * m) arity in
          (e, subst (λ (y : ℕ). y ≤ args.j * 64) (sym e) (mul-le-mul_left args.j (row_sizes args.row).high));
    }
