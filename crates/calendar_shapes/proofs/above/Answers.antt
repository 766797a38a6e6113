-- A shift to the right is a division.
use mathlib.Core.Path.{ap}
use Prim.Native.Nat.{ℕ, ◌/◌}
use lib.Pow.{shr_le}
use Rattle.calendar_shapes.proofs.Powers.{by_exponent}
use Rattle.calendar_shapes.proofs.above.Goals as goal

pub returns : goal.returns
returns c =
    let args = c.args in
    let exponent = c.exponent in
    (ap (λ (m : ℕ). args.l / m) (by_exponent _ args.row exponent.ensures), shr_le args.l exponent.result)
