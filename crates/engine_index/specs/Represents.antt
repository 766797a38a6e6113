-- The held events that the bytes stand for, each with the node of its slot.
use Rattle.std.specs.Prelude.{◌≡◌, ◌≢◌, Bool, true, false, cond, List, [], ◌∷◌, ℕ, ◌+◌, ◌≤◌, ◌<◌, eqb, length}
use Rattle.words.specs.Le.{load_at}
use Rattle.line.specs.declared.Event.{Event}
use Rattle.line.specs.Event.{before}
use Rattle.rules.specs.Held.{Held, unrun, ran, event}
use Rattle.rings.specs.Ring.{Rings}
use Rattle.engine_rows.specs.Layout.{slot_row, free_status, unrun_status, run_status}
use Rattle.entry.specs.Entry.{event_at}
use Rattle.engine_records.specs.Records.{state_at}
use Rattle.engine_index.specs.Layout.{unrun_ring, run_ring, free_ring, nodes_of, slot_of, links_at, log_at, index_bytes}

-- ---- the held events with their nodes

pub record Cell : Type 0 where
  pub node : ℕ
  pub held : Held

abbrev pub cell : ℕ → Held → Cell
cell x h = record { node = x; held = h }

-- the ring that an event is in
abbrev pub ring_of : ℕ → Held → ℕ
ring_of n (unrun x) = unrun_ring x.target
ring_of n (ran x b) = run_ring n x.target

abbrev pub has_run : Held → Bool
has_run (unrun x) = false
has_run (ran x b) = true

-- the nodes of the cells for which t holds, in order
abbrev pub nodes_by : (Held → Bool) → List Cell → List ℕ
nodes_by t [] = []
nodes_by t (y ∷ ys) = cond (t y.held) (y.node ∷ nodes_by t ys) (nodes_by t ys)

-- what stands in ring u: the free nodes, or the cells of a station
unfoldable pub contents : ℕ → List Cell → List ℕ → ℕ → List ℕ
contents n cells free u = cond (eqb u (free_ring n)) free (nodes_by (λ h. eqb (ring_of n h) u) cells)

-- ---- what stands in a slot

abbrev pub status_at : ℕ → ℕ → List ℕ → ℕ
status_at n x xs = load_at 2 (slot_row n (slot_of n x) + 60) xs

abbrev pub HeldAt : ℕ → List ℕ → ℕ → Held → Type 0
HeldAt n xs x (unrun e) = (event_at (slot_row n (slot_of n x)) xs ≡ e) × (status_at n x xs ≡ unrun_status)
HeldAt n xs x (ran e b) =
    (event_at (slot_row n (slot_of n x)) xs ≡ e) × (status_at n x xs ≡ run_status) × (state_at (slot_row n (slot_of n x) + 24) xs ≡ b)

abbrev pub Stored : ℕ → List ℕ → List Cell → Type 0
Stored n xs [] = Unit
Stored n xs (y ∷ ys) = HeldAt n xs y.node y.held × (free_ring n < y.node) × ((event y.held).target < n) × Stored n xs ys

abbrev pub Free : ℕ → List ℕ → List ℕ → Type 0
Free n xs [] = Unit
Free n xs (x ∷ fs) = (status_at n x xs ≡ free_status) × (free_ring n < x) × Free n xs fs

-- each comes before all after it
abbrev pub AllBefore : List Cell → Event → Type 0
AllBefore [] e = Unit
AllBefore (y ∷ ys) e = (before (event y.held) e ≡ true) × AllBefore ys e

abbrev pub AllAfter : Event → List Cell → Type 0
AllAfter e [] = Unit
AllAfter e (y ∷ ys) = (before e (event y.held) ≡ true) × AllAfter e ys

abbrev pub Sorted : List Cell → Type 0
Sorted [] = Unit
Sorted (y ∷ ys) = AllAfter (event y.held) ys × Sorted ys

-- the bytes stand for the cells, in the event order, with the free nodes
pub record Stands (n c : ℕ) (xs : List ℕ) (cells : List Cell) (free : List ℕ) : Type 0 where
  pub stations : n ≤ 256
  pub capacity : c ≤ 4096
  pub room : slot_row n 0 + index_bytes n c ≤ length xs
  pub rings : Rings xs (links_at n c) (nodes_of n c) (free_ring n + 1) (contents n cells free)
  pub log : Rings xs (log_at n c) (nodes_of n c) 1 (λ _. nodes_by has_run cells)
  pub stored : Stored n xs cells
  pub unused : Free n xs free
  pub sorted : Sorted cells

-- no cell is in ring u
abbrev pub NoneIn : ℕ → ℕ → List Cell → Type 0
NoneIn n u [] = Unit
NoneIn n u (y ∷ ys) = (ring_of n y.held ≢ u) × NoneIn n u ys
