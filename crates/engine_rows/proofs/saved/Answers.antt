-- The call's place stands in the slot's row.
use Prim.Native.Nat.{◌+◌}
use Rattle.engine_records.specs.Records.{state_at}
use mathlib.Core.Path.{◌∙◌, ap}
use Rattle.engine_rows.proofs.saved.Goals as goal

pub returns : goal.returns
returns c =
    c.read_state.ensures ∙ ap (λ z. state_at (z + 24) c.args.b.now) c.slot_row.ensures.0
