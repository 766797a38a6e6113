-- No station below k is wrong.
use Rattle.plan_reading.specs.Search.{NoneBelow}
use Rattle.plan_reading.proofs.lowest_wrong.Given as goal

abbrev pub invariant-loop-k : goal.invariant-loop-k
invariant-loop-k g l = NoneBelow (goal.F-post g l.wrong) l.k
