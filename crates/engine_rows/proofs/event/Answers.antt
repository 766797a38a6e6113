-- The call's place is the slot's row.
use Rattle.entry.specs.Entry.{event_at}
use mathlib.Core.Path.{◌∙◌, ap}
use Rattle.engine_rows.proofs.event.Goals as goal

pub returns : goal.returns
returns c =
    c.read.ensures ∙ ap (λ z. event_at z c.args.b.now) c.slot_row.ensures.0
