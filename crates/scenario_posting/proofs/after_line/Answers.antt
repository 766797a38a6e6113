-- One more where a byte ends the line.
use borrow.Author.Tests.{lt-ltb, le-ltb}
use Rattle.scenario_posting.proofs.after_line.Goals as goal

pub returns-then-end-text : goal.returns-then-end-text
returns-then-end-text c = rw (lt-ltb _ _ c.if-end-text.true)

pub returns : goal.returns
returns c = rw (le-ltb _ _ c.if-end-text.false)
