-- By whether a line asked for a reading.
use borrow.Author.Rules.{rules}
use Rattle.quote_setup.proofs.ReadingsPosted.{asked_for, unasked}
use Rattle.quote_setup.proofs.read_unasked.Goals as goal

pub returns-then-read : goal.returns-then-read
returns-then-read c = asked_for c.if-read.true

pub returns : goal.returns
returns c = unasked c.if-read.false c.read_each.ensures
