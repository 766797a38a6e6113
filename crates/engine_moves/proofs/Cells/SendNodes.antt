-- The nodes of a run event's sends stay those of cells with these events while these cells stay, each run or not.
use mathlib.Core.Path.{◌≡◌, refl, sym}
use mathlib.Core.List.{List, ◌∷◌, Memᴰ}
use Prim.Native.Nat.{ℕ, ◌+◌, ◌<◌}
use native.Mathlib.Omega.{arith}
use Rattle.words.specs.Le.{load_at}
use Rattle.line.specs.declared.Event.{Event}
use Rattle.rules.specs.Held.{Held, event}
use Rattle.engine_rows.specs.Layout.{slot_row}
use Rattle.engine_index.specs.Layout.{slot_of}
use Rattle.engine_index.specs.Promises.{Spares}
use Rattle.engine_index.specs.Represents.{Cell, cell}
use Rattle.engine_events.specs.Represents.{Has, From, sends_at, Nodes, none, more}

-- the cell is there after the change, run or not
abbrev pub Still : List Cell → ℕ → Held → Type 0
Still cells x h = (k : Held) × Has (cell x k) cells × (event k ≡ event h)

pub nodes_map : {old new : List Cell} {ks : List ℕ} {es : List Event} → Nodes old ks es
    → ((x : ℕ) (h : Held) → Has (cell x h) old → Memᴰ (event h) es → Still new x h) → Nodes new ks es
nodes_map none f = none
nodes_map {old} {new} (more {x} {h} {ks} {es} m r) f = go (f x h m (Memᴰ.head refl)) (nodes_map r (λ y k i j. f y k i (Memᴰ.tail j)))
  where
    go : Still new x h → Nodes new ks es → Nodes new (x ∷ ks) (event h ∷ es)
    go t q = rw (sym t.2) (more t.1 q)

pub nodes_from : {old new : List Cell} {ks : List ℕ} {es : List Event} → From new old → Nodes old ks es → Nodes new ks es
nodes_from f r = nodes_map r (λ x h m _. f (cell x h) m)

-- ---- the numbers of a slot

pub sends_as : (n x : ℕ) (xs ys : List ℕ) → load_at 2 (slot_row n (slot_of n x) + 56) ys ≡ load_at 2 (slot_row n (slot_of n x) + 56) xs
    → load_at 2 (slot_row n (slot_of n x) + 58) ys ≡ load_at 2 (slot_row n (slot_of n x) + 58) xs → sends_at n x ys ≡ sends_at n x xs
unfolding sends_at
sends_as n x xs ys a b = rw (a, b)

pub sends_spared : {n c z : ℕ} {xs ys : List ℕ} (x : ℕ) → Spares n c z xs ys → slot_of n x < c → sends_at n x ys ≡ sends_at n x xs
sends_spared {n} {c} {z} {xs} {ys} x S l =
    sends_as n x xs ys (at (omega arith) (S.numbers (slot_of n x) 0 l (omega arith) (omega arith)))
    (at (omega arith) (S.numbers (slot_of n x) 1 l (omega arith) (omega arith)))
  where
    at : {a b : ℕ} → a ≡ b → load_at 2 a ys ≡ load_at 2 a xs → load_at 2 b ys ≡ load_at 2 b xs
    at e h = rw e at h
