-- The events that the engine holds, in the event order, and what is read off them (document 01, "Engine calls").
use Rattle.std.specs.Prelude.{ℕ, zero, suc, ◌≤◌, ◌≡◌, Bool, true, false, cond, not, ◌&&◌, ◌||◌, ltb, eqb}
use Rattle.std.proofs.Math.Option.{Option, none as noTime, some as timed}
use mathlib.Core.List.{List, [], ◌∷◌, Memᴰ}
use Rattle.line.specs.declared.Event.{Event}
use Rattle.line.specs.declared.State.{State}
use Rattle.line.specs.Event.{before, posted}
use Rattle.line.specs.Station.{States}

-- "The engine holds events, each run or unrun": a run one with the state of its station from before it (its checkpoint)
pub data Held : Type 0 where
  unrun : Event → Held
  ran : Event → State → Held

abbrev pub event : Held → Event
event (unrun x) = x
event (ran x b) = x

-- the held events, always in the event order, and the stations' current states
pub record Queue : Type 0 where
  pub states : States
  pub held : List Held

abbrev pub In : Held → List Held → Type 0
In y h = Memᴰ y h

-- a and b are one event: neither is before the other
unfoldable pub same : Event → Event → Bool
same a b = not (before a b) && not (before b a)

-- ---- one event changed

-- x becomes unrun
unfoldable pub unmark : Event → List Held → List Held
unmark x [] = []
unmark x (y ∷ h) = cond (same (event y) x) (unrun (event y) ∷ h) (y ∷ unmark x h)

-- x is taken out
unfoldable pub delete : Event → List Held → List Held
delete x [] = []
delete x (y ∷ h) = cond (same (event y) x) h (y ∷ delete x h)

-- x is put in, unrun, in its place
unfoldable pub place : Event → List Held → List Held
place x [] = unrun x ∷ []
place x (y ∷ h) = cond (before (event y) x) (y ∷ place x h) (unrun x ∷ y ∷ h)

-- ---- the least unrun event of a station

pub data Found : Type 0 where
  none : Found
  some : Event → Found

unfoldable pub least_unrun : ℕ → List Held → Found
least_unrun s [] = none
least_unrun s (ran x b ∷ h) = least_unrun s h
least_unrun s (unrun x ∷ h) = cond (eqb x.target s) (some x) (least_unrun s h)

-- it becomes run, from the state b
unfoldable pub mark : ℕ → State → List Held → List Held
mark s b [] = []
mark s b (ran x a ∷ h) = ran x a ∷ mark s b h
mark s b (unrun x ∷ h) = cond (eqb x.target s) (ran x b ∷ h) (unrun x ∷ mark s b h)

-- ---- what the calendar holds: "each station that has an unrun event, at the time of its least one, and no other"

pub data Registered : Type 0 where
  absent : Registered
  at : ℕ → Registered

unfoldable pub time_of : Found → Registered
time_of none = absent
time_of (some x) = at x.time

unfoldable pub registered : List Held → ℕ → Registered
registered h s = time_of (least_unrun s h)

-- the same as an optional time, and those of the n stations from s on
unfoldable pub as_time : Registered → Option ℕ
as_time absent = noTime
as_time (at t) = timed t

unfoldable pub registered_from : List Held → ℕ → ℕ → List (Option ℕ)
registered_from h s zero = []
registered_from h s (suc n) = as_time (registered h s) ∷ registered_from h (suc s) n

-- s has the least registered time and is the lowest-numbered that has it: "Extract and run lowest follow" (document 02, change 3)
pub record Lowest (h : List Held) (s : ℕ) : Type 0 where
  pub time : ℕ
  pub is : registered h s ≡ at time
  pub least : (t : ℕ) (u : ℕ) → registered h t ≡ at u → time ≤ u
  pub first : (t : ℕ) → registered h t ≡ at time → s ≤ t

-- ---- counts and tests

-- "how many events had run before the call and are unrun or gone after it"
unfoldable pub is_run : Event → List Held → Bool
is_run x [] = false
is_run x (unrun y ∷ h) = is_run x h
is_run x (ran y b ∷ h) = same x y || is_run x h

unfoldable pub undone : List Held → List Held → ℕ
undone [] k = 0
undone (unrun x ∷ h) k = undone h k
undone (ran x b ∷ h) k = cond (is_run x k) (undone h k) (suc (undone h k))

-- the held post with number n
unfoldable pub held_post : ℕ → List Held → Found
held_post n [] = none
held_post n (y ∷ h) = cond (eqb (event y).source posted && eqb (event y).number n) (some (event y)) (held_post n h)

-- no event is unrun
unfoldable pub none_unrun : List Held → Bool
none_unrun [] = true
none_unrun (unrun x ∷ h) = false
none_unrun (ran x b ∷ h) = none_unrun h

-- an unrun event lies before c
unfoldable pub unrun_before : ℕ → List Held → Bool
unrun_before c [] = false
unrun_before c (unrun x ∷ h) = ltb x.time c || unrun_before c h
unrun_before c (ran x b ∷ h) = unrun_before c h

-- ---- commit and record

-- "every event before c, in order", and the held events without them
unfoldable pub logged : ℕ → List Held → List Event
logged c [] = []
logged c (y ∷ h) = cond (ltb (event y).time c) (event y ∷ logged c h) (logged c h)

unfoldable pub kept : ℕ → List Held → List Held
kept c [] = []
kept c (y ∷ h) = cond (ltb (event y).time c) (kept c h) (y ∷ kept c h)

-- "a station's state as of the commit time": the one from before its first held run event, and the current one where none is run
unfoldable pub record_of : States → ℕ → List Held → State
record_of st s [] = st s
record_of st s (unrun x ∷ h) = record_of st s h
record_of st s (ran x b ∷ h) = cond (eqb x.target s) b (record_of st s h)
