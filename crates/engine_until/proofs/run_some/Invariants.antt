-- Each call is one more of the list.
use Rattle.engine_until.proofs.TurnLaws.{RunsSoFar}
use Rattle.engine_until.proofs.run_some.Given as goal

abbrev pub invariant-loop : goal.invariant-loop
invariant-loop l = RunsSoFar l.initial.b l.b
