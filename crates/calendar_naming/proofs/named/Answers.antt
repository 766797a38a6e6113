-- The first station is the one of least time.
use Rattle.calendar_naming.proofs.Naming.{names_lost, names_at}
use Rattle.calendar_naming.proofs.named.Goals as goal

pub returns-then-due-eq0 : goal.returns-then-due-eq0
returns-then-due-eq0 c =
    let args = c.args in
    λ F. names_lost args.b.now args.station args.words F c.requires.0 c.due-due.result (c.due-due.ensures.0 c.requires.0) c.if-due-eq0.true

pub returns : goal.returns
returns c =
    let args = c.args in
    λ F. names_at args.b.now args.station args.words F c.requires.0 c.due-due.result (c.due-due.ensures.0 c.requires.0) c.requires.1 c.if-due-eq0.false
