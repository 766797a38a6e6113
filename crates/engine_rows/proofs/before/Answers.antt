-- Where the times differ they decide; elsewhere the events are compared.
use Rattle.line.specs.Event.{before as isBefore}
use mathlib.Core.Path.{◌∙◌, ap}
use Rattle.entry.proofs.EntryLaws.{told_by_time}
use Rattle.engine_rows.proofs.before.Goals as goal

pub returns-then-t-e : goal.returns-then-t-e
returns-then-t-e c = told_by_time _ _ _ c.time-t.ensures c.if-t-e.true

pub returns : goal.returns
returns c =
    c.before-2.ensures ∙ ap (λ z. isBefore z c.args.e) c.event.ensures
