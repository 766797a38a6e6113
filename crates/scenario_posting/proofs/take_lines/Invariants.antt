-- Each line that is taken is one order more.
use Rattle.std.proofs.Common.{◌-◌, length}
use Rattle.scenario_posting.proofs.LinesTaken.{Begun}
use Rattle.scenario_posting.proofs.take_lines.Given as goal

abbrev pub invariant-loop-from : goal.invariant-loop-from
invariant-loop-from l = Begun l.text l.from l.line l.asked.days l.asked.read l.initial.b l.b

abbrev pub decreases-loop-from : goal.decreases-loop-from
decreases-loop-from l = length l.text - l.from
