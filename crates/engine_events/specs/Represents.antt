-- The held events and the stations' states that the engine's bytes stand for, between two calls and between two steps of a rollback.
use Rattle.std.specs.Prelude.{◌≡◌, ◌≢◌, Bool, cond, ◌&&◌, ℕ, ◌+◌, ◌*◌, ◌≤◌, ◌<◌, eqb, leb, length, drop, get_or}
use Rattle.std.proofs.Math.Option.{none as noTime}
use mathlib.Core.List.{List, [], ◌∷◌, ◌++◌, Memᴰ}
use Rattle.refusal.specs.Tests.{horizon}
use Rattle.words.specs.Le.{load_at}
use Rattle.line.specs.declared.Event.{Event}
use Rattle.line.specs.declared.State.{State}
use Rattle.line.specs.Station.{Plan, run_event}
use Rattle.rules.specs.Held.{Held, ran, event, In, Queue, as_time, registered}
use Rattle.rules.specs.Engine.{Setting}
use Rattle.engine_rows.specs.Layout.{station_row, slot_row}
use Rattle.engine_records.specs.Records.{state_at, stored_config}
use Rattle.calendar_header.specs.Bytes.{Sound, state_of}
use Rattle.engine_events.specs.Shows.{Inside, Shows}
use Rattle.engine_index.specs.Layout.{nodes_of, slot_of, log_at}
use Rattle.engine_index.specs.Represents.{Cell, cell, Stands}

-- ---- the buffer

-- the calendar's part stands after the log's links, and reaches to the end of the buffer
abbrev pub calendar_at : ℕ → ℕ → ℕ
calendar_at n c = log_at n c + 4 * nodes_of n c

abbrev pub part : ℕ → ℕ → List ℕ → List ℕ
part n c xs = drop (calendar_at n c) xs

-- the numbers are in range, and so many bytes hold all that stands before the calendar's part
abbrev pub fits_in : ℕ → ℕ → ℕ → Bool
fits_in n c bytes = leb n 256 && (leb c 4096 && leb (calendar_at n c) bytes)

-- ---- the cells

abbrev pub held_of : List Cell → List Held
held_of [] = []
held_of (y ∷ ys) = y.held ∷ held_of ys

abbrev pub Has : Cell → List Cell → Type 0
Has y ys = Memᴰ y ys

-- each of the new cells was there, with its node and its event, run or not
abbrev pub From : List Cell → List Cell → Type 0
From old new = (y : Cell) → Has y new → (h : Held) × Has (cell y.node h) old × (event h ≡ event y.held)

-- ---- an event's sends

-- a node; 0 is none
abbrev pub nonzero : ℕ → List ℕ
nonzero k = cond (eqb k 0) [] (k ∷ [])

-- the nodes of its sends, as the slot of node x has them
unfoldable pub sends_at : ℕ → ℕ → List ℕ → List ℕ
sends_at n x xs = nonzero (load_at 2 (slot_row n (slot_of n x) + 56) xs) ++ nonzero (load_at 2 (slot_row n (slot_of n x) + 58) xs)

-- the nodes are those of cells with these events
pub data Nodes (cells : List Cell) : List ℕ → List Event → Type 0 where
  none : Nodes cells [] []
  more : {x : ℕ} {h : Held} {ks : List ℕ} {es : List Event} → Has (cell x h) cells → Nodes cells ks es → Nodes cells (x ∷ ks) (event h ∷ es)

-- each run event's slot names the nodes of its sends
abbrev pub Kids : Plan → ℕ → List ℕ → List Cell → Type 0
Kids p n xs cells = (x : ℕ) (e : Event) (b : State) → Has (cell x (ran e b)) cells → Nodes cells (sends_at n x xs) (run_event p b e).sends

-- ---- the relation

-- the bytes hold the queue q, in these cells, for n stations and c slots: all but the calendar
pub record Stores (p : Plan) (n c now : ℕ) (xs : List ℕ) (q : Queue) (cells : List Cell) : Type 0 where
  pub count : p.count ≡ n
  pub some : 1 ≤ c
  pub long : calendar_at n c ≤ length xs
  pub configs : (s : ℕ) → s < n → stored_config (station_row n s) xs ≡ p.config s
  pub states : (s : ℕ) → s < n → state_at (station_row n s + 32) xs ≡ q.states s
  pub free : List ℕ
  pub stands : Stands n c xs cells free
  pub places : length cells + length free ≡ c
  pub held : held_of cells ≡ q.held
  pub times : (y : Held) → In y q.held → (now ≤ (event y).time) × ((event y).time ≤ horizon)
  pub kids : Kids p n xs cells

-- the calendar's part is a calendar of the arity and the leaf width that the opening chose, with the floor `now`, that shows the held events: it has "each
-- station that has an unrun event, at the time of its least one, and no other"
pub record Calendared (setting : Setting) (n c now : ℕ) (xs : List ℕ) (h : List Held) : Type 0 where
  pub sound : Sound (part n c xs)
  pub arity : (state_of (part n c xs)).arity ≡ setting.arity
  pub width : (state_of (part n c xs)).width ≡ setting.width
  pub floor : (state_of (part n c xs)).floor ≡ now
  pub shows : Shows n (state_of (part n c xs)).times h

-- it does so but for station s, whose least unrun event may have changed
pub record Untold (setting : Setting) (n c now s : ℕ) (xs : List ℕ) (h : List Held) : Type 0 where
  pub sound : Sound (part n c xs)
  pub arity : (state_of (part n c xs)).arity ≡ setting.arity
  pub width : (state_of (part n c xs)).width ≡ setting.width
  pub floor : (state_of (part n c xs)).floor ≡ now
  pub size : length (state_of (part n c xs)).times ≡ n
  pub others : (t : ℕ) → t < n → t ≢ s → get_or (state_of (part n c xs)).times t noTime ≡ as_time (registered h t)
  pub inside : Inside n h

pub record Holds (p : Plan) (setting : Setting) (n c now : ℕ) (xs : List ℕ) (q : Queue) (cells : List Cell) : Type 0 where
  pub stores : Stores p n c now xs q cells
  pub calendar : Calendared setting n c now xs q.held
