-- The call's place stands in the slot's row.
use Prim.Native.Nat.{◌+◌}
use Rattle.engine_records.specs.Records.{put_state}
use mathlib.Core.Path.{◌∙◌, ap}
use Rattle.engine_rows.proofs.set_saved.Goals as goal

pub returns : goal.returns
returns c =
    let a = c.args in
    c.write_state.ensures ∙ ap (λ z. put_state (z + 24) a.v a.b.now) c.slot_row.ensures.0
