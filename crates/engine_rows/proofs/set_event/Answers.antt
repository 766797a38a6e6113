-- The call's place is the slot's row.
use Rattle.entry.specs.Entry.{put_event}
use mathlib.Core.Path.{◌∙◌, ap}
use Rattle.engine_rows.proofs.set_event.Goals as goal

pub returns : goal.returns
returns c =
    let a = c.args in
    c.write.ensures ∙ ap (λ z. put_event z a.e a.b.now) c.slot_row.ensures.0
