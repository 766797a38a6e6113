-- What each change of one event makes of what the bytes hold.
use Rattle.std.specs.Prelude.{◌≡◌, Bool, true, false, ℕ, suc, ◌+◌, ◌≤◌, ◌<◌, length}
use mathlib.Core.List.{List, [], ◌∷◌, ◌++◌, Memᴰ}
use Rattle.refusal.specs.Tests.{horizon, arity_out, engine_bytes}
use Rattle.line.specs.declared.Event.{Event}
use Rattle.line.specs.declared.State.{State}
use Rattle.line.specs.Event.{before}
use Rattle.line.specs.Station.{Plan, InRange, initial, update, run_event}
use Rattle.rules.specs.Held.{Held, unrun, ran, event, In, Queue, same, unmark, delete, place, mark, some, least_unrun}
use Rattle.rules.specs.Engine.{Setting, chosen, opened}
use Rattle.rules.specs.Undo.{NoneLater}
use Rattle.engine_rows.specs.Layout.{station_row}
use Rattle.line.specs.Widths.{EventFits, StateFits}
use Rattle.engine_records.specs.Records.{state_at, stored_config}
use Rattle.engine_index.specs.Represents.{Cell, cell}
use Rattle.engine_events.specs.Represents.{held_of, Has, From, nonzero, Nodes, Holds}

-- the bytes hold q, in cells that were among these
pub record HoldsAmong (p : Plan) (setting : Setting) (n c now : ℕ) (ys : List ℕ) (q : Queue) (cells : List Cell) : Type 0 where
  pub after : List Cell
  pub holds : Holds p setting n c now ys q after
  pub from : From cells after

-- ---- conditions on the held events

-- x is none of them
abbrev pub New : Event → List Held → Type 0
New x h = (y : Held) → In y h → same (event y) x ≡ false

-- no unrun event of its target is before x
abbrev pub NoneWaits : Event → List Held → Type 0
NoneWaits x h = (z : Event) → In (unrun z) h → z.target ≡ x.target → before z x ≡ false

-- no run event has sent x
abbrev pub Unsent : Plan → Event → List Held → Type 0
Unsent p x h = (y : Event) (b : State) → In (ran y b) h → (z : Event) → Memᴰ z (run_event p b y).sends → same z x ≡ false

-- ---- the changes

-- an event is held, unrun
abbrev pub HoldsEvent : ℕ → ℕ → List ℕ → Event → ℕ → List ℕ → Type 0
HoldsEvent n c xs e r ys =
    (p : Plan) (setting : Setting) (now : ℕ) (q : Queue) (cells : List Cell) → Holds p setting n c now xs q cells → length cells < c → EventFits e
    → e.target < n
    → now ≤ e.time → e.time ≤ horizon → New e q.held
    → HoldsAmong p setting n c now ys (record { states = q.states; held = place e q.held }) (cell r (unrun e) ∷ cells)

-- the first unrun event of its station has run, and its sends are at these nodes
abbrev pub RunsEvent : ℕ → ℕ → List ℕ → ℕ → State → ℕ → ℕ → List ℕ → Type 0
RunsEvent n c xs x after first second ys =
    (p : Plan) (setting : Setting) (now : ℕ) (q : Queue) (cells : List Cell) (e : Event) → Holds p setting n c now xs q cells
    → Has (cell x (unrun e)) cells
    → least_unrun e.target q.held ≡ some e → NoneLater e q.held → after ≡ (run_event p (q.states e.target) e).after → StateFits after
    → Nodes cells (nonzero first ++ nonzero second) (run_event p (q.states e.target) e).sends
    → HoldsAmong p setting n c now ys (record { states = update q.states e.target after; held = mark e.target (q.states e.target) q.held }) cells

-- the last run event of its station is unrun again, and the station's state is that from before it
abbrev pub UnrunsEvent : ℕ → ℕ → List ℕ → ℕ → Bool → List ℕ → Type 0
UnrunsEvent n c xs x r ys =
    (p : Plan) (setting : Setting) (now : ℕ) (q : Queue) (cells : List Cell) (e : Event) (b : State) → Holds p setting n c now xs q cells
    → Has (cell x (ran e b)) cells
    → NoneLater e q.held → NoneWaits e q.held
    → (r ≡ true) × HoldsAmong p setting n c now ys (record { states = update q.states e.target b; held = unmark e q.held }) cells

-- an unrun event leaves
abbrev pub DiscardsEvent : ℕ → ℕ → List ℕ → ℕ → List ℕ → Type 0
DiscardsEvent n c xs x ys =
    (p : Plan) (setting : Setting) (now : ℕ) (q : Queue) (cells : List Cell) (e : Event) → Holds p setting n c now xs q cells
    → Has (cell x (unrun e)) cells
    → Unsent p e q.held
    → HoldsAmong p setting n c now ys (record { states = q.states; held = delete e q.held }) cells

-- the first of all held events, a run one, leaves
abbrev pub ReleasesEvent : ℕ → ℕ → List ℕ → ℕ → List ℕ → Type 0
ReleasesEvent n c xs x ys =
    (p : Plan) (setting : Setting) (now : ℕ) (q : Queue) (cells : List Cell) (e : Event) (b : State) → InRange p
    → Holds p setting n c now xs q (cell x (ran e b) ∷ cells)
    → Holds p setting n c now ys (record { states = q.states; held = held_of cells }) cells

-- the commit time is raised
abbrev pub Raises : ℕ → ℕ → ℕ → List ℕ → List ℕ → Type 0
Raises n c floor xs ys =
    (p : Plan) (setting : Setting) (now : ℕ) (q : Queue) (cells : List Cell) → Holds p setting n c now xs q cells → now ≤ floor → floor ≤ suc horizon
    → ((y : Held) → In y q.held → floor ≤ (event y).time) → Holds p setting n c floor ys q cells

-- no event is held, at the stations that stand there with their first states, by a calendar of that arity and leaf width; whatever else
-- the bytes held
abbrev pub ClearsEvents : ℕ → ℕ → ℕ → ℕ → List ℕ → List ℕ → Type 0
ClearsEvents n c arity width xs ys =
    (p : Plan) → p.count ≡ n → 1 ≤ n → n ≤ 256 → 1 ≤ c → c ≤ 4096 → arity_out arity ≡ false
    → engine_bytes arity n c ≤ length xs → 1 ≤ width → width ≤ 1048576
    → ((s : ℕ) → s < n → stored_config (station_row n s) xs ≡ p.config s) → ((s : ℕ) → s < n → state_at (station_row n s + 32) xs ≡ initial p s)
    → Holds p (chosen arity width c) n c 0 ys (opened p (chosen arity width c)).queue []
