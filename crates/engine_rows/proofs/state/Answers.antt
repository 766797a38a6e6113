-- The call's place stands in the station's row.
use Prim.Native.Nat.{◌+◌}
use Rattle.engine_records.specs.Records.{state_at}
use mathlib.Core.Path.{◌∙◌, ap}
use Rattle.engine_rows.proofs.state.Goals as goal

pub returns : goal.returns
returns c =
    c.read_state.ensures ∙ ap (λ z. state_at (z + 32) c.args.b.now) c.station_row.ensures.0
