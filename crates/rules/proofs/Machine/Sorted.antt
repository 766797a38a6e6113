-- The plain machine with its waiting events in order: a form in which the least one is the first.
use Prim.Native.Nat.{ℕ, ◌≤◌, ◌<◌}
use mathlib.Core.List.{List, [], ◌∷◌, ◌++◌}
use Rattle.line.specs.declared.Event.{Event}
use Rattle.line.specs.Station.{Plan, States, update, initial, Outcome, run_event}
use Rattle.rules.specs.Machine.{Machine}
use Rattle.rules.specs.Replay.{insert_all_sorted}

-- the machine at the sorted_start, with these posts
unfoldable pub sorted_start : Plan → List Event → Machine
sorted_start p posts = record { waiting = insert_all_sorted posts []; states = initial p; log = [] }

-- a sorted_step takes the least waiting event x, the others being ws
unfoldable pub sorted_step : Plan → Event → List Event → States → List Event → Machine
sorted_step p x ws st log =
    let o : Outcome = run_event p (st x.target) x in
    record { waiting = insert_all_sorted o.sends ws; states = update st x.target o.after; log = log ++ (x ∷ []) }

-- no event before c waits (the waiting events are in order)
unfoldable pub Idle : ℕ → List Event → Type 0
Idle c [] = Unit {0}
Idle c (x ∷ ws) = c ≤ x.time

-- the machine steps from the first state to the second while an event before c waits
pub data SortedRuns (p : Plan) (c : ℕ) : Machine → Machine → Type 0 where
  rest : {m : Machine} → Idle c m.waiting → SortedRuns p c m m
  go_on : {x : Event} {ws : List Event} {st : States} {log : List Event} {m : Machine} → x.time < c → SortedRuns p c (sorted_step p x ws st log) m
      → SortedRuns p c (record { waiting = x ∷ ws; states = st; log = log }) m
