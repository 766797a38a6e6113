-- Undo, remove and add, the rules of rollback and cancellation (document 01, "Engine calls": "Undo").
use Rattle.std.specs.Prelude.{◌≡◌, true, false, List, [], ◌∷◌}
use Rattle.line.specs.declared.Event.{Event}
use Rattle.line.specs.declared.State.{State}
use Rattle.line.specs.Event.{before}
use Rattle.line.specs.Station.{Plan, update, run_event}
use Rattle.rules.specs.Held.{Held, unrun, ran, Queue, In, unmark, delete, place}

-- no run event of x's target is later than x
abbrev pub NoneLater : Event → List Held → Type 0
NoneLater x h = (z : Event) (a : State) → In (ran z a) h → z.target ≡ x.target → before x z ≡ false

-- y is the latest run event of x's target that is later than x
pub record LatestLater (x y : Event) (h : List Held) : Type 0 where
  pub before_it : State
  pub run : In (ran y before_it) h
  pub target_is : y.target ≡ x.target
  pub later : before x y ≡ true
  pub latest : NoneLater y h

pub data Action : Type 0 where
  Undo : Event → Action
  UndoLater : Event → Action
  Remove : Event → Action
  RemoveEach : List Event → Action
  Add : Event → Action
  AddEach : List Event → Action

-- doing the action to the first queue leaves the second
pub data Does (p : Plan) : Action → Queue → Queue → Type 0 where
  -- "to undo a run event is to make it unrun, restore its station's state from before it, and remove its sends"
  undo : {q r : Queue} {x : Event} {b : State} → In (ran x b) q.held
      → Does p (RemoveEach (run_event p b x).sends) (record { states = update q.states x.target b; held = unmark x q.held }) r → Does p (Undo x) q r
  -- "undo every later run event of its target, latest first"
  later_none : {q : Queue} {x : Event} → NoneLater x q.held → Does p (UndoLater x) q q
  later_next : {q r u : Queue} {x y : Event} → LatestLater x y q.held → Does p (Undo y) q r → Does p (UndoLater x) r u → Does p (UndoLater x) q u
  -- "To remove a run event, first undo every later run event of its target, latest first, then the event."
  remove_run : {q r u : Queue} {x : Event} {b : State} → In (ran x b) q.held → Does p (UndoLater x) q r → Does p (Undo x) r u
      → Does p (Remove x) q (record { states = u.states; held = delete x u.held })
  -- to remove an unrun event undoes nothing
  remove_unrun : {q : Queue} {x : Event} → In (unrun x) q.held → Does p (Remove x) q (record { states = q.states; held = delete x q.held })
  -- "To add an event, first undo every later run event of its target, latest first."
  add : {q r : Queue} {x : Event} → Does p (UndoLater x) q r → Does p (Add x) q (record { states = r.states; held = place x r.held })
  -- the events of a list, one after the other
  remove_none : {q : Queue} → Does p (RemoveEach []) q q
  remove_next : {q r u : Queue} {x : Event} {xs : List Event} → Does p (Remove x) q r → Does p (RemoveEach xs) r u → Does p (RemoveEach (x ∷ xs)) q u
  add_none : {q : Queue} → Does p (AddEach []) q q
  add_next : {q r u : Queue} {x : Event} {xs : List Event} → Does p (Add x) q r → Does p (AddEach xs) r u → Does p (AddEach (x ∷ xs)) q u
