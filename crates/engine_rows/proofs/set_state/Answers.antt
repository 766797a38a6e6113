-- The call's place stands in the station's row.
use Prim.Native.Nat.{◌+◌}
use Rattle.engine_records.specs.Records.{put_state}
use mathlib.Core.Path.{◌∙◌, ap}
use Rattle.engine_rows.proofs.set_state.Goals as goal

pub returns : goal.returns
returns c =
    let a = c.args in
    c.write_state.ensures ∙ ap (λ z. put_state (z + 32) a.v a.b.now) c.station_row.ensures.0
