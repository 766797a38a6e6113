-- Each send is one send of the state before it, and the two effects together are those of the second send on top of the first.
use mathlib.Core.Path.{sym, ◌∙◌, ap}
use borrow.Author.Tests.{ne_eqb, eq-eqb}
use Rattle.line.specs.Station.{run_read}
use Rattle.line.specs.Answer.{said}
use Rattle.line_running.proofs.Answers.{ahead, single, stays, chain}
use Rattle.line_running.proofs.run_read.Goals as goal

pub returns-then-station-eq0 : goal.returns-then-station-eq0
unfolding run_read
returns-then-station-eq0 c = rw (eq-eqb _ 0 c.if-station-eq0.true) c.silent.ensures.said

pub returns-in_err-read : goal.returns-in_err-read
unfolding run_read
returns-in_err-read c =
    rw (c.from_residual.ensures, ne_eqb _ 0 c.if-station-eq0.false, ← c.period.ensures)
    (stays _ _ _ _ _ (ap said (sym c.in_err-read.was) ∙ c.send.ensures.said))

pub returns-in_err-frame : goal.returns-in_err-frame
unfolding run_read
returns-in_err-frame c =
    rw (c.from_residual-in_err-frame.ensures, ne_eqb _ 0 c.if-station-eq0.false, ← c.period.ensures, chain _ _ _ _ _ _ (c.send.ensures.said, c.send.ensures.one) _ c.in_ok-read.was)
    (ap (ahead _) (ap said (sym c.in_err-frame.was) ∙ c.send-2.ensures.said))

pub returns : goal.returns
unfolding run_read
returns c =
    rw (ne_eqb _ 0 c.if-station-eq0.false, ← c.period.ensures, chain _ _ _ _ _ _ (c.send.ensures.said, c.send.ensures.one) _ c.in_ok-read.was)
    (ap (ahead _) (single _ _ (c.send-2.ensures.said, c.send-2.ensures.one) _ c.in_ok-frame.was))
