-- Each line that is taken is one order more.
use Rattle.std.proofs.Common.{arith}
use Rattle.scenario_posting.proofs.LinesTaken.{none_begun, all_taken, line_on, line_refused, later, lines_all, lines_refused}
use Rattle.scenario_posting.proofs.take_lines.Goals as goal

pub loop-from-init : goal.loop-from-init
loop-from-init c = none_begun

pub overflow_add-line : goal.overflow_add-line
overflow_add-line c = let few = c.loop-from.invariant.few in omega arith

pub returns-in-Err : goal.returns-in-Err
returns-in-Err c =
    lines_refused (line_refused c.loop-from.invariant c.loop-from-test.true c.line_end-end.ensures c.take_line.ensures c.in-Err.is)

pub loop-from-smaller : goal.loop-from-smaller
loop-from-smaller c =
    let on = later c.loop-from-test.true c.line_end-end.ensures in
    omega (arith, c.after_line-from.ensures)

pub loop-from-preserved : goal.loop-from-preserved
loop-from-preserved c =
    let begun = line_on c.loop-from.invariant c.loop-from-test.true c.line_end-end.ensures c.take_line.ensures c.in-Ok.is in
    rw c.after_line-from.ensures begun

pub returns : goal.returns
returns c = lines_all (all_taken c.loop-from.invariant (omega arith))
