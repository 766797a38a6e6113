-- The call's place is the station's row.
use Rattle.engine_records.specs.Records.{put_config}
use mathlib.Core.Path.{◌∙◌, ap}
use Rattle.engine_rows.proofs.set_config.Goals as goal

pub returns : goal.returns
returns c =
    let a = c.args in
    c.write_config.ensures ∙ ap (λ z. put_config z a.c a.b.now) c.station_row.ensures.0
