-- The call's place is the slot's row.
use Rattle.words.specs.Le.{load_at}
use mathlib.Core.Path.{◌∙◌, ap}
use Rattle.engine_rows.proofs.time.Goals as goal

pub returns : goal.returns
returns c =
    c.load.ensures ∙ ap (λ z. load_at 8 z c.args.b.now) c.slot_row.ensures.0
