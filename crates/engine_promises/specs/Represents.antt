-- The engine that the bytes of a buffer stand for.
use Rattle.std.specs.Prelude.{◌≡◌, List, ℕ}
use Rattle.words.specs.Le.{load_at}
use Rattle.engine_rows.specs.Layout.{word_place, capacity_word, commit_time_word, next_post_word, stations_word}
use Rattle.line.specs.Station.{Plan, InRange}
use Rattle.rules.specs.Engine.{Engine, opened}
use Rattle.rules.specs.Demand.{Made, Calls}
use Rattle.engine_index.specs.Represents.{Cell}
use Rattle.engine_events.specs.Represents.{Holds}

-- an engine that the rules make of an opening and calls after it
pub record Reached (p : Plan) (e : Engine) : Type 0 where
  pub calls : List Made
  pub made : Calls p (opened p e.setting) calls e

-- the header's words: stations, capacity, commit time and the next post's number; after them the queue
pub record Represents (p : Plan) (e : Engine) (xs : List ℕ) : Type 0 where
  pub range : InRange p
  pub reached : Reached p e
  pub stations : load_at 8 (word_place stations_word) xs ≡ p.count
  pub capacity : load_at 8 (word_place capacity_word) xs ≡ e.setting.capacity
  pub now : load_at 8 (word_place commit_time_word) xs ≡ e.now
  pub next : load_at 8 (word_place next_post_word) xs ≡ e.next
  pub cells : List Cell
  pub holds : Holds p e.setting p.count e.setting.capacity e.now xs e.queue cells
