-- Each turn is one hour more.
use Rattle.quoting.proofs.Hours.{HoursRun}
use Rattle.quoting.proofs.run_hours.Given as goal

abbrev pub invariant-loop-hour : goal.invariant-loop-hour
invariant-loop-hour g l = HoursRun l.hour l.initial.b l.initial.out l.b l.out l.table
