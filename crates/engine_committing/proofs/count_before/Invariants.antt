-- The front cells of the log are passed one by one.
use Rattle.engine_committing.proofs.Counting.{Counting}
use Rattle.engine_committing.proofs.count_before.Given as goal

abbrev pub invariant-loop-count : goal.invariant-loop-count
invariant-loop-count l = Counting l.n l.c l.b l.time l.count l.x
