-- Every place on the way ranks below k; the rank rises at each turn, so the walk ends.
use mathlib.Core.Path.{◌≡◌}
use Prim.Native.Nat.{◌-◌, ◌^◌, ◌<◌}
use Rattle.calendar_cells.specs.Cells.{link_at}
use Rattle.calendar_lists.proofs.Finds.{Way}
use Rattle.calendar_lists.proofs.find.Given as goal

abbrev pub invariant-loop-n : goal.invariant-loop-n
invariant-loop-n l = (l.p < 66048) × (l.n ≡ link_at l.p l.b) × (Way l.b l.list l.k l.p l.last) × (l.last < 2 ^ 64)

abbrev pub decreases-loop-n : goal.decreases-loop-n
decreases-loop-n l = 2 ^ 64 - l.last
