-- Undo, remove, add and run as functions, with a bound on the undos: forms that compute. That they are the rules of Undo is a theorem (`does-agree`,
-- `can-remove`, `can-add`).
use Rattle.std.specs.Prelude.{ℕ, zero, suc, cond, not, ◌&&◌, List, [], ◌∷◌, eqb}
use Rattle.line.specs.declared.Event.{Event}
use Rattle.line.specs.declared.State.{State}
use Rattle.line.specs.Event.{before}
use Rattle.line.specs.Station.{Plan, update, Outcome, run_event}
use Rattle.rules.specs.Held.{Held, unrun, ran, Queue, delete, place, mark}

-- how many held events are run
unfoldable pub runs : List Held → ℕ
runs [] = 0
runs (unrun x ∷ h) = runs h
runs (ran x b ∷ h) = suc (runs h)

-- the latest run event of station s at or after x, with the state before it, and the held events with it unrun
pub data Search : Type 0 where
  nothing : Search
  found : Event → State → List Held → Search

unfoldable pub beyond : Held → Search → Search
beyond y nothing = nothing
beyond y (found e b h) = found e b (y ∷ h)

unfoldable pub or_this : ℕ → Event → Event → State → List Held → Search → Search
or_this s x e b h nothing = cond (eqb e.target s && not (before e x)) (found e b (unrun e ∷ h)) nothing
or_this s x e b h (found e' b' h') = found e' b' (ran e b ∷ h')

unfoldable pub latest : ℕ → Event → List Held → Search
latest s x [] = nothing
latest s x (unrun y ∷ h) = beyond (unrun y) (latest s x h)
latest s x (ran e b ∷ h) = or_this s x e b h (latest s x h)

-- removing each event of a list, where `undo q s x` undoes the run events of s at or after x
unfoldable pub remove_each : (Queue → ℕ → Event → Queue) → List Event → Queue → Queue
remove_each undo [] q = q
remove_each undo (y ∷ ys) q =
    let r : Queue = undo q y.target y in
    remove_each undo ys (record { states = r.states; held = delete y r.held })

unfoldable pub undo_found : Plan → (Queue → ℕ → Event → Queue) → Queue → ℕ → Event → Search → Queue
undo_found p undo q s x nothing = q
undo_found p undo q s x (found e b h) =
    undo (remove_each undo (run_event p b e).sends (record { states = update q.states s b; held = h })) s x

-- undoing the run events of station s at or after x, latest first; n bounds the events undone
unfoldable pub undo_within : Plan → ℕ → Queue → ℕ → Event → Queue
undo_within p zero q s x = q
undo_within p (suc n) q s x = undo_found p (undo_within p n) q s x (latest s x q.held)

unfoldable pub undo_from : Plan → Queue → ℕ → Event → Queue
undo_from p q s x = undo_within p (runs q.held) q s x

-- removing a held event: undo its target's run events from it on, then drop it
unfoldable pub removing : Plan → Queue → Event → Queue
removing p q x =
    let r : Queue = undo_from p q x.target x in
    record { states = r.states; held = delete x r.held }

unfoldable pub remove_all : Plan → List Event → Queue → Queue
remove_all p [] q = q
remove_all p (y ∷ ys) q = remove_all p ys (removing p q y)

-- undoing the event e of station s, run from b: h are the held events with it unrun
unfoldable pub undo_event : Plan → Queue → ℕ → Event → State → List Held → Queue
undo_event p q s e b h = remove_all p (run_event p b e).sends (record { states = update q.states s b; held = h })

-- adding an event: undo its target's run events after it, then hold it unrun
unfoldable pub adding : Plan → Queue → Event → Queue
adding p q x =
    let r : Queue = undo_from p q x.target x in
    record { states = r.states; held = place x r.held }

unfoldable pub add_all : Plan → List Event → Queue → Queue
add_all p [] q = q
add_all p (y ∷ ys) q = add_all p ys (adding p q y)

-- running x, the least unrun event of its target: its sends are added in order, and x is run
unfoldable pub run_least : Plan → Queue → Event → Queue
run_least p q x =
    let b : State = q.states x.target in
    let o : Outcome = run_event p b x in
    let r : Queue = add_all p o.sends q in
    record { states = update r.states x.target o.after; held = mark x.target b r.held }
