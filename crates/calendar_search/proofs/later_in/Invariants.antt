-- Each node without a bit from s on passes its stations by.
use Prim.Native.Nat.{◌-◌, ◌≤◌}
use Rattle.calendar_shapes.specs.Rule.{arity_in}
use Rattle.calendar_cells.specs.Table.{Table}
use Rattle.calendar_search.specs.Promises.{NoneTo}
use Rattle.calendar_search.proofs.later_in.Given as goal

abbrev pub invariant-loop-s : goal.invariant-loop-s
invariant-loop-s l = (l.from ≤ l.s) × (Table (arity_in l.row) l.b → NoneTo (arity_in l.row) l.b l.from l.s)

abbrev pub decreases-loop-s : goal.decreases-loop-s
decreases-loop-s l = 256 - l.s
