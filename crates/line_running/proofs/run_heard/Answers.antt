-- The state that is made is the definition's, and a count of heard frames that passes stays so, whether the frame is passed on or not.
use native.Mathlib.Omega.{arith}
use native.Mathlib.Numerals.{add-one}
use borrow.Author.Tests.{ne_eqb, eq-eqb}
use Rattle.line.specs.Station.{silent, drawn_state, hear, pass}
use Rattle.line_running.proofs.Answers.{passed, pass_stays}
use Rattle.line_running.proofs.run_heard.Goals as goal

pub returns-then-s-eq4294967295 : goal.returns-then-s-eq4294967295
unfolding silent drawn_state hear
returns-then-s-eq4294967295 c = pass_stays _ _ _ _ _ (passed _ (λ h l s. omega arith))

pub returns-then-station-ne0 : goal.returns-then-station-ne0
unfolding drawn_state hear pass
returns-then-station-ne0 c = rw (ne_eqb _ 0 c.if-station-ne0.true, ← c.requires, ← add-one _) c.send.ensures.said

pub returns-else-station-ne0 : goal.returns-else-station-ne0
unfolding drawn_state hear pass
returns-else-station-ne0 c = rw (eq-eqb _ 0 c.if-station-ne0.false, ← c.requires, ← add-one _) c.silent.ensures.said
