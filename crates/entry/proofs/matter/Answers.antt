-- Each way through the code settles the two tests on the kind.
use borrow.Author.Tests.{ne_eqb}
use Rattle.entry.specs.Entry.{matter_or}
use Rattle.entry.proofs.matter.Goals as goal

pub returns-in-2 : goal.returns-in-2
unfolding matter_or
returns-in-2 c = rw c.in-2.is

pub returns-in-3 : goal.returns-in-3
unfolding matter_or
returns-in-3 c = rw c.in-3.is

pub returns-in_default : goal.returns-in_default
unfolding matter_or
returns-in_default c = let r = c.in_default.in_default-own.rest in rw (ne_eqb _ 2 r.0.1, ne_eqb _ 3 r.1)
