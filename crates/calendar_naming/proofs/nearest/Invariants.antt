-- Before each turn, best is the nearest of the stations below from that wait. The measure is what is left of the 256 stations.
use Prim.Native.Nat.{◌≤◌, ◌<◌, ◌-◌}
use Rattle.std.specs.Prelude.{IfSome}
use Rattle.calendar_cells.specs.Table.{arity_of}
use Rattle.calendar_header.specs.Bytes.{Sound}
use Rattle.calendar_naming.specs.Steps.{Nearest}
use Rattle.calendar_naming.proofs.nearest.Given as goal

abbrev pub invariant-loop-s : goal.invariant-loop-s
invariant-loop-s l = IfSome l.best (λ h. h < l.from) × (l.from ≤ 256) × (Sound l.b → Nearest (arity_of l.b) l.b l.from l.best)

abbrev pub decreases-loop-s : goal.decreases-loop-s
decreases-loop-s l = 256 - l.from
