-- The costs of the first k entries are added.
use Rattle.account.proofs.Adding.{CostsSoFar}
use Rattle.account.proofs.add_costs.Given as goal

abbrev pub invariant-loop-k : goal.invariant-loop-k
invariant-loop-k l = CostsSoFar l.reading l.frame l.n l.part l.b l.k l.costs
