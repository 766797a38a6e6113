-- What undoing, removing and adding do to what the bytes hold: what the rules say, as functions (rules/specs/Executable).
use Rattle.std.specs.Prelude.{◌⊎◌, List, ◌∷◌, ℕ, ◌≤◌, ◌<◌, length}
use Rattle.refusal.specs.Tests.{horizon}
use Rattle.line.specs.declared.Event.{Event}
use Rattle.line.specs.declared.State.{State}
use Rattle.line.specs.Station.{Plan, States}
use Rattle.rules.specs.Held.{Held, unrun, ran, event, Queue, unmark}
use Rattle.rules.specs.Engine.{Setting}
use Rattle.rules.specs.Undo.{NoneLater}
use Rattle.rules.specs.Executable.{undo_from, undo_event, removing, adding}
use Rattle.rules.specs.Replay.{insert_sorted, Fresh, Clear}
use Rattle.line.specs.Widths.{EventFits}
use Rattle.engine_index.specs.Represents.{Cell, cell}
use Rattle.engine_events.specs.Represents.{Has}
use Rattle.engine_moves.specs.Promises.{New}
use Rattle.engine_rollback.specs.BetweenSteps.{Mid, RollsTo}

-- "to undo a run event is to make it unrun, restore its station's state from before it, and remove its sends": the event of node x
abbrev pub Undoes : ℕ → ℕ → List ℕ → ℕ → ℕ → List ℕ → Type 0
Undoes n c xs x r ys =
    (p : Plan) (setting : Setting) (now : ℕ) (q : Queue) (cells : List Cell) (ws : List Event) (st : States) (e : Event) (b : State)
    → Mid p setting n c now xs q cells ws st
    → Has (cell x (ran e b)) cells → NoneLater e q.held → RollsTo p setting n c now r q ys (undo_event p q e.target e b (unmark e q.held)) cells

-- the run events of station s from e on, latest first
abbrev pub UndoesFrom : ℕ → ℕ → List ℕ → ℕ → Event → ℕ → List ℕ → Type 0
UndoesFrom n c xs s e r ys =
    (p : Plan) (setting : Setting) (now : ℕ) (q : Queue) (cells : List Cell) (ws : List Event) (st : States) → Mid p setting n c now xs q cells ws st
    → RollsTo p setting n c now r q ys (undo_from p q s e) cells

-- "To remove a run event, first undo every later run event of its target, latest first, then the event": the event of node x, whose target is below s, or
-- has no run event from it on
abbrev pub RemovesBelow : ℕ → ℕ → List ℕ → ℕ → ℕ → ℕ → List ℕ → Type 0
RemovesBelow n c xs s x r ys =
    (p : Plan) (setting : Setting) (now : ℕ) (q : Queue) (cells : List Cell) (ws : List Event) (st : States) (h : Held)
    → Mid p setting n c now xs q cells (insert_sorted (event h) ws) st
    → Has (cell x h) cells → Fresh p (event h) q.held → ((event h).target < s) ⊎ Clear (event h).target (event h) q.held
    → RollsTo p setting n c now r q ys (removing p q (event h)) cells

abbrev pub Removes : ℕ → ℕ → List ℕ → ℕ → ℕ → List ℕ → Type 0
Removes n c xs x r ys =
    (p : Plan) (setting : Setting) (now : ℕ) (q : Queue) (cells : List Cell) (ws : List Event) (st : States) (h : Held)
    → Mid p setting n c now xs q cells (insert_sorted (event h) ws) st
    → Has (cell x h) cells → Fresh p (event h) q.held → RollsTo p setting n c now r q ys (removing p q (event h)) cells

-- "To add an event, first undo every later run event of its target, latest first."
abbrev pub Adds : ℕ → ℕ → List ℕ → Event → ℕ → ℕ → List ℕ → Type 0
Adds n c xs e node undone ys =
    (p : Plan) (setting : Setting) (now : ℕ) (q : Queue) (cells : List Cell) (ws : List Event) (st : States) → Mid p setting n c now xs q cells ws st
    → length cells < c
    → EventFits e → e.target < n → now ≤ e.time → e.time ≤ horizon → New e q.held
    → RollsTo p setting n c now undone q ys (adding p q e) (cell node (unrun e) ∷ cells)
