-- The costs of the first i entries' targets are stored.
use Rattle.account.proofs.Storing.{StoredSoFar}
use Rattle.account.proofs.store_costs.Given as goal

abbrev pub invariant-loop-i : goal.invariant-loop-i
invariant-loop-i l = StoredSoFar l.n l.part l.initial.costs l.initial.b l.i l.b l.costs
