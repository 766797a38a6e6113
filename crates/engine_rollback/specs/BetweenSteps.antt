-- The bytes between two steps of a call, with what a queue keeps there (rules/specs/Replay).
use Rattle.std.specs.Prelude.{◌≡◌, List, ℕ, ◌+◌}
use Rattle.line.specs.declared.Event.{Event}
use Rattle.line.specs.Station.{Plan, InRange, States}
use Rattle.rules.specs.Held.{Queue}
use Rattle.rules.specs.Engine.{Setting}
use Rattle.rules.specs.Executable.{runs}
use Rattle.rules.specs.Replay.{Replayed, Neat}
use Rattle.engine_index.specs.Represents.{Cell}
use Rattle.engine_events.specs.Represents.{Holds}
use Rattle.engine_moves.specs.Promises.{HoldsAmong}

-- the bytes hold q, which is in order and a replay of the machine with the waiting events ws and the states st
pub record Mid (p : Plan) (setting : Setting) (n c now : ℕ) (xs : List ℕ) (q : Queue) (cells : List Cell) (ws : List Event) (st : States) : Type 0 where
  pub range : InRange p
  pub holds : Holds p setting n c now xs q cells
  pub ok : Replayed p ws st q
  pub neat : Neat p q.held

-- the bytes come to hold r, in cells that were among these, and k events are undone on the way
pub record RollsTo (p : Plan) (setting : Setting) (n c now k : ℕ) (q : Queue) (ys : List ℕ) (r : Queue) (cells : List Cell) : Type 0 where
  pub becomes : HoldsAmong p setting n c now ys r cells
  pub undone : k + runs r.held ≡ runs q.held
