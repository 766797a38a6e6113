-- The line that a plan's bytes stand for.
use Rattle.std.specs.Prelude.{List, ℕ}
use Rattle.line.specs.Station.{Plan}
use Rattle.plan_format.specs.Plan.{count, station_at}

unfoldable pub line_of : List ℕ → Plan
line_of plan = record { count = count plan; config = λ s. (station_at plan s).config }
