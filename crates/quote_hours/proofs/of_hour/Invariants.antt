-- Each day adds less than 2 to the 32nd.
use Rattle.std.proofs.Common.{◌≤◌, ◌*◌}
use Rattle.quote_hours.proofs.of_hour.Given as goal

abbrev pub invariant-loop-d : goal.invariant-loop-d
invariant-loop-d l = l.sum ≤ 4294967295 * l.d
