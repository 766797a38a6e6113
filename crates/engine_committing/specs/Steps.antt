-- What the calls' private steps ensure; no promise to a caller cites these.
use Rattle.std.specs.Prelude.{◌≡◌, Bool, true, false, List, [], ◌∷◌, ◌++◌, ℕ, ◌+◌, ◌*◌, ◌≤◌, length, drop, Result}
use Rattle.words.specs.Le.{load_at}
use Rattle.engine_rows.specs.Layout.{word_place, capacity_word, commit_time_word, stations_word}
use Rattle.refusal.specs.declared.Refusal.{Refusal}
use Rattle.refusal.specs.Tests.{horizon}
use Rattle.line.specs.declared.Event.{Event}
use Rattle.line.specs.Station.{Plan, InRange}
use Rattle.rules.specs.Held.{event, Queue, unrun_before, logged}
use Rattle.rules.specs.Engine.{Setting, Commit}
use Rattle.entry.specs.Entry.{entries}
use Rattle.engine_index.specs.Represents.{Cell, has_run}
use Rattle.engine_events.specs.Represents.{held_of, Holds}
use Rattle.engine_promises.specs.Steps.{at_most, JudgesAndFinds}
use Rattle.engine_committing.specs.declared.Front.{Front}

-- does an unrun event lie before the time?
abbrev pub Early : ℕ → ℕ → List ℕ → ℕ → Bool → Type 0
Early n c xs time r =
    (p : Plan) (setting : Setting) (now : ℕ) (q : Queue) (cells : List Cell) → Holds p setting n c now xs q cells → r ≡ unrun_before time q.held

-- how many events lie before the time, where none of them is unrun
abbrev pub Counts : ℕ → ℕ → List ℕ → ℕ → ℕ → Type 0
Counts n c xs time r =
    (p : Plan) (setting : Setting) (now : ℕ) (q : Queue) (cells : List Cell) → Holds p setting n c now xs q cells → unrun_before time q.held ≡ false
    → r ≡ length (logged time q.held)

abbrev pub events_of : List Cell → List Event
events_of [] = []
events_of (y ∷ ys) = event y.held ∷ events_of ys

abbrev pub AllRun : List Cell → Type 0
AllRun [] = Unit
AllRun (y ∷ ys) = (has_run y.held ≡ true) × AllRun ys

-- the first events, all run, are written and leave
abbrev pub Writes : ℕ → ℕ → List ℕ → ℕ → List ℕ → List ℕ → List ℕ → Type 0
Writes n c xs count output ys left =
    (p : Plan) (setting : Setting) (now : ℕ) (q : Queue) (front back : List Cell) → InRange p → Holds p setting n c now xs q (front ++ back)
    → AllRun front → length front ≡ count
    → 24 * count ≤ length output
    → Holds p setting n c now ys (record { states = q.states; held = held_of back }) back × (left ≡ entries (events_of front) ++ drop (24 * count) output)

-- ---- judging

-- a commit of so many events passes every number, at n stations and c slots
pub record CommitPasses (n c time count room : ℕ) (xs : List ℕ) : Type 0 where
  pub stations : n ≡ at_most 256 (load_at 8 (word_place stations_word) xs)
  pub capacity : c ≡ at_most 4096 (load_at 8 (word_place capacity_word) xs)
  pub in_time : time ≤ horizon + 1
  pub due : load_at 8 (word_place commit_time_word) xs ≤ time
  pub none_is_unrun : Early n c xs time false
  pub counts : Counts n c xs time count
  pub room_is : 24 * count ≤ room

-- of each output of so many bytes
abbrev pub JudgesCommit : ℕ → ℕ → List ℕ → Result Front Refusal → Type 0
JudgesCommit time room xs r =
    (output : List ℕ) → length output ≡ room → JudgesAndFinds (Commit time output) xs r (λ f. CommitPasses f.n f.c time f.count room xs)
