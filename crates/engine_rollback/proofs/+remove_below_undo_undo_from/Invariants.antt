-- undo, undo_from and remove_below call each other. Each undo lowers the number of run slots, whatever the bytes are: that is the measure.
use Prim.Native.Nat.{◌+◌, ◌*◌, ◌≤◌}
use Rattle.engine_moves.specs.RunCount.{runs_below}
use Rattle.engine_events.specs.Promises.{AfterHeader}
use Rattle.engine_rollback.proofs.UndoTurns.{Goes}
use Rattle.engine_rollback.proofs.+remove_below_undo_undo_from.Given as goal

abbrev pub decreases-remove_below : goal.decreases-remove_below
decreases-remove_below l = 3 * runs_below l.n l.b.now l.c + 2

abbrev pub decreases-undo : goal.decreases-undo
decreases-undo l = 3 * runs_below l.n l.b.now l.c

abbrev pub decreases-undo_from : goal.decreases-undo_from
decreases-undo_from l = 3 * runs_below l.n l.b.now l.c + 1

-- the changes are after the header; as many fewer slots have run as are counted; what the bytes held leaves the rest to undo
abbrev pub invariant-undo_from-loop-e : goal.invariant-undo_from-loop-e
invariant-undo_from-loop-e l =
    AfterHeader l.initial.b l.b × (l.count + runs_below l.n l.b l.c ≤ runs_below l.n l.initial.b l.c)
    × Goes l.n l.c l.initial.b l.s l.e l.count l.b

abbrev pub decreases-undo_from-loop-e : goal.decreases-undo_from-loop-e
decreases-undo_from-loop-e l = runs_below l.n l.b l.c
