-- Each root that is 0 passes a block by; the first that is not leads to the first leaf.
use Prim.Native.Nat.{◌%◌}
use Rattle.calendar_shapes.specs.Rule.{arity_in}
use Rattle.calendar_cells.specs.Table.{Table}
use Rattle.calendar_search.proofs.Firsts.{Clear}
use Rattle.calendar_search.proofs.first_leaf.Given as goal

abbrev pub invariant-loop-i : goal.invariant-loop-i
invariant-loop-i l = (T : Table (arity_in l.row) l.b) → Clear (arity_in l.row) l.b T (l.slot % 16) l.i
