-- The last run event of a station tells: where there is none (`ended-empty`), or it is before e (`ended-before`), nothing is to be undone.
use native.Mathlib.Omega.{arith}
use Rattle.engine_rollback.proofs.UndoTurns.{goes_at_first, test_at, ended_empty, ended_before, undoes_from}
use Rattle.engine_rollback.proofs.settled.Goals as goal

pub returns-then-x-eq0 : goal.returns-then-x-eq0
returns-then-x-eq0 c = λ _. undoes_from (goes_at_first _ _ _ _ _) (ended_empty (omega arith) _ c.last_run-x.ensures (omega arith))

pub returns : goal.returns
returns c =
    λ t. undoes_from (goes_at_first _ _ _ _ _)
    (ended_before (omega arith) _ c.last_run-x.ensures (λ z. omega (arith, z)) (test_at _ _ _ _ c.slot.ensures c.before-2.ensures t))
