-- What a queue keeps between two calls and between two steps of one: the held events are the trace of a plain machine that leaves some of them unrun.
-- The steps of a rollback are stated of such queues; no promise of a call cites this.
use Rattle.std.specs.Prelude.{◌≡◌, ◌≢◌, cond, List, [], ◌∷◌, ℕ, ◌<◌}
use Rattle.line.specs.declared.Event.{Event}
use Rattle.line.specs.declared.State.{State}
use Rattle.line.specs.Event.{before}
use Rattle.line.specs.Order.{Lt, Ge, Differ, All}
use Rattle.line.specs.Station.{Plan, States, update, run_event}
use Rattle.rules.specs.Held.{Held, unrun, ran, event, Queue}

-- an event put into a list in order
unfoldable pub insert_sorted : Event → List Event → List Event
insert_sorted x [] = x ∷ []
insert_sorted x (y ∷ ys) = cond (before y x) (y ∷ insert_sorted x ys) (x ∷ y ∷ ys)

unfoldable pub insert_all_sorted : List Event → List Event → List Event
insert_all_sorted [] ws = ws
insert_all_sorted (x ∷ xs) ws = insert_sorted x (insert_all_sorted xs ws)

-- Q holds of every run event with the state before it
abbrev pub EachRun : (Event → State → Type 0) → List Held → Type 0
EachRun Q [] = Unit {0}
EachRun Q (unrun x ∷ h) = EachRun Q h
EachRun Q (ran x b ∷ h) = Q x b × EachRun Q h

-- no event of station s is run
abbrev pub NoRun : ℕ → List Held → Type 0
NoRun s h = EachRun (λ x b. x.target ≢ s) h

-- a machine that starts with the waiting events ws and the station states st, takes the least waiting event each time, runs it or leaves it as h says,
-- and no more of a station once one of its events is left, takes the events of h in their order, saves the states that h has for its run events, and
-- ends with nothing waiting and the states cur
abbrev pub Replay : Plan → List Event → States → States → List Held → Type 0
Replay p ws st cur [] = (ws ≡ []) × ((s : ℕ) → cur s ≡ st s)
Replay p ws st cur (unrun x ∷ h) = (vs : List Event) × (ws ≡ x ∷ vs) × (x.target < p.count) × NoRun x.target h × Replay p vs st cur h
Replay p ws st cur (ran x b ∷ h) =
    (vs : List Event) × (ws ≡ x ∷ vs) × (x.target < p.count) × (b ≡ st x.target)
    × Replay p (insert_all_sorted (run_event p b x).sends vs) (update st x.target (run_event p b x).after) cur h

-- the held events are in order
abbrev pub Above : Event → List Held → Type 0
Above x h = All (λ y. Ge (event y) x) h

abbrev pub InOrder : List Held → Type 0
InOrder [] = Unit {0}
InOrder (y ∷ h) = Above (event y) h × InOrder h

-- no run event of station s is at or after x
abbrev pub Clear : ℕ → Event → List Held → Type 0
Clear s x h = EachRun (λ y b. y.target ≡ s → Lt y x) h

-- x differs from every send of a run event
abbrev pub Fresh : Plan → Event → List Held → Type 0
Fresh p x h = EachRun (λ y b. All (Differ x) (run_event p b y).sends) h

-- ---- in order, at stations

-- each before all after it
abbrev pub Strict : List Held → Type 0
Strict [] = Unit {0}
Strict (y ∷ h) = All (λ z. Lt (event y) (event z)) h × Strict h

-- after an unrun event of a station, no event of it is run
abbrev pub Blocked : List Held → Type 0
Blocked [] = Unit {0}
Blocked (unrun x ∷ h) = NoRun x.target h × Blocked h
Blocked (ran x b ∷ h) = Blocked h

pub record Neat (p : Plan) (h : List Held) : Type 0 where
  pub strict : Strict h
  pub blocked : Blocked h
  pub inside : All (λ z. (event z).target < p.count) h

-- ---- the queue

pub record Replayed (p : Plan) (ws : List Event) (st : States) (q : Queue) : Type 0 where
  pub replay : Replay p ws st q.states q.held
  pub sorted : InOrder q.held
