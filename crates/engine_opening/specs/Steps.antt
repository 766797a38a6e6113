-- What the calls' private steps ensure; no promise to a caller cites these.
use Rattle.std.specs.Prelude.{◌≡◌, List, ℕ, ◌+◌, ◌≤◌, ◌<◌, length}
use Rattle.line.specs.Station.{initial}
use Rattle.engine_rows.specs.Layout.{station_row, slot_row}
use Rattle.engine_records.specs.Records.{state_at, stored_config}
use Rattle.plan_format.specs.Line.{line_of}

-- stations 0 to n - 1 have the plan's numbers and their first states
pub record StationsBegun (plan : List ℕ) (n : ℕ) (xs ys : List ℕ) : Type 0 where
  pub size : length ys ≡ length xs
  pub configs : slot_row n 0 ≤ length xs → (s : ℕ) → s < n → stored_config (station_row n s) ys ≡ (line_of plan).config s
  pub states : slot_row n 0 ≤ length xs → (s : ℕ) → s < n → state_at (station_row n s + 32) ys ≡ initial (line_of plan) s
