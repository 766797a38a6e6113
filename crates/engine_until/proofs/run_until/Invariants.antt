-- Each turn's calls are joined to the list.
use Rattle.engine_until.proofs.TurnLaws.{Turned}
use Rattle.engine_until.proofs.run_until.Given as goal

abbrev pub invariant-loop : goal.invariant-loop
invariant-loop l = Turned l.counter l.initial.b l.initial.out l.b l.out
