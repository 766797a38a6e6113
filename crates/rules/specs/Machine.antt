-- The plain machine, a sequential reference simulator (document 01, "Plain machine").
use Rattle.std.specs.Prelude.{ℕ, ◌≤◌, ◌<◌, ◌≡◌, false}
use mathlib.Core.List.{List, [], ◌∷◌, ◌++◌, Memᴰ}
use Rattle.line.specs.declared.Event.{Event}
use Rattle.line.specs.Event.{before}
use Rattle.line.specs.Station.{Plan, States, update, initial, Outcome, run_event}

-- "the waiting events ..; the station states; a log"
pub record Machine : Type 0 where
  pub waiting : List Event
  pub states : States
  pub log : List Event

-- ".. at first the given posts with their numbers; the station states; a log, at first empty"
unfoldable pub start : Plan → List Event → Machine
start p posts = record { waiting = posts; states = initial p; log = [] }

-- taking x out of the first list leaves the second
pub data Takes (x : Event) : List Event → List Event → Type 0 where
  here : {ws : List Event} → Takes x (x ∷ ws) ws
  there : {w : Event} {ws vs : List Event} → Takes x ws vs → Takes x (w ∷ ws) (w ∷ vs)

-- no event of the list is before x
abbrev pub Least : Event → List Event → Type 0
Least x ws = (w : Event) → Memᴰ w ws → before w x ≡ false

-- "A step removes the least waiting event .., runs it, adds its sends to the waiting and appends the event to the log": x is removed, and vs
-- are the others that wait
unfoldable pub step : Plan → Event → List Event → Machine → Machine
step p x vs m =
    let o : Outcome = run_event p (m.states x.target) x in
    record { waiting = vs ++ o.sends; states = update m.states x.target o.after; log = m.log ++ (x ∷ []) }

-- "It steps while an event before the commit time waits": the machine comes from the first state to the second
pub data Runs (p : Plan) (c : ℕ) : Machine → Machine → Type 0 where
  halt : {m : Machine} → ((w : Event) → Memᴰ w m.waiting → c ≤ w.time) → Runs p c m m
  more : {m k : Machine} {x : Event} {vs : List Event} → Takes x m.waiting vs → Least x m.waiting → x.time < c → Runs p c (step p x vs m) k → Runs p c m k
