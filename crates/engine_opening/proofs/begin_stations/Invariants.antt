-- Each turn begins one station more (`begun-on`), until all have begun (`begun_all`).
use Rattle.engine_opening.proofs.Beginning.{BegunTo}
use Rattle.engine_opening.proofs.begin_stations.Given as goal

abbrev pub invariant-loop-s : goal.invariant-loop-s
invariant-loop-s l = BegunTo l.plan l.n l.s l.initial.b l.b
