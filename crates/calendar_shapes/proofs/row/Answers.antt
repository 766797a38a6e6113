-- Each row of the table is right.
use native.Mathlib.Omega.{arith}
use Prim.Native.Nat.{◌%◌}
use Rattle.calendar_shapes.proofs.Table.{row_right}
use Rattle.calendar_shapes.proofs.row.Goals as goal

pub returns : goal.returns
returns c = row_right (c.args.i % 4) (omega arith)
