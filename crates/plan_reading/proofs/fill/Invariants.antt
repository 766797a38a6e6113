-- The first k records are set.
use Rattle.std.proofs.Common.{◌≡◌}
use Rattle.plan_reading.proofs.Filled.{filled}
use Rattle.plan_reading.proofs.fill.Given as goal

abbrev pub invariant-loop-k : goal.invariant-loop-k
invariant-loop-k l = l.stations ≡ filled l.plan l.k l.initial.stations
