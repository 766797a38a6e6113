-- Each station from 1 on that is below s reads at 0.
use Rattle.std.proofs.Common.{◌-◌, ◌≤◌}
use Rattle.scenario.specs.Scenario.{first_readings}
use Rattle.scenario_posting.specs.Promises.{AllPosted}
use Rattle.quote_setup.proofs.read_each.Given as goal

abbrev pub invariant-loop-s : goal.invariant-loop-s
invariant-loop-s l = (l.s - 1 ≤ l.n - 1) × AllPosted l.initial.b (first_readings (l.s - 1)) l.b
