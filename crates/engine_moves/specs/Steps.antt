-- What the private step of the changes ensures; no promise to a caller cites it.
use Rattle.std.specs.Prelude.{List, ℕ}
use Rattle.line.specs.Station.{Plan}
use Rattle.rules.specs.Held.{Queue}
use Rattle.rules.specs.Engine.{Setting}
use Rattle.engine_index.specs.Represents.{Cell}
use Rattle.engine_events.specs.Represents.{Stores, Untold, Holds}

-- the calendar is told station s's least unrun event
abbrev pub Tells : ℕ → ℕ → ℕ → List ℕ → List ℕ → Type 0
Tells n c s xs ys =
    (p : Plan) (setting : Setting) (now : ℕ) (q : Queue) (cells : List Cell) → Stores p n c now xs q cells → Untold setting n c now s xs q.held
    → Holds p setting n c now ys q cells
