-- The call's place is the station's row.
use Rattle.engine_records.specs.Records.{stored_config}
use mathlib.Core.Path.{◌∙◌, ap}
use Rattle.engine_rows.proofs.config.Goals as goal

pub returns : goal.returns
returns c =
    c.read_config.ensures ∙ ap (λ z. stored_config z c.args.b.now) c.station_row.ensures.0
