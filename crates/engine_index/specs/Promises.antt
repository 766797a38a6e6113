-- What each change of the index makes of the held events.
use Rattle.std.specs.Prelude.{◌≡◌, List, ◌∷◌, ◌++◌, [], ◌≢◌, ℕ, ◌+◌, ◌<◌, zero, suc, ◌≤◌, length}
use Rattle.line.specs.declared.Event.{Event}
use Rattle.line.specs.declared.State.{State}
use Rattle.rules.specs.Held.{unrun, ran}
use Rattle.line.specs.Widths.{EventFits, StateFits}
use Rattle.engine_index.specs.Layout.{unrun_ring, run_ring, slot_of, IsSlot, node_of, index_bytes}
use Rattle.engine_index.specs.Represents.{Cell, cell, AllBefore, AllAfter, Stands, NoneIn}
use Rattle.words.specs.Le.{load_at}
use Rattle.engine_rows.specs.Layout.{slot_row, number_place, status_number}

-- an event takes the first free slot, between those before it and those after it
abbrev pub Puts : ℕ → ℕ → List ℕ → Event → ℕ → List ℕ → Type 0
Puts n c xs e r ys =
    (A B : List Cell) (x : ℕ) (fs : List ℕ) → Stands n c xs (A ++ B) (x ∷ fs) → EventFits e → e.target < n → AllBefore A e → AllAfter e B
    → (r ≡ x) × Stands n c ys (A ++ cell x (unrun e) ∷ B) fs

-- the first unrun event of a station, of which none is run after it, has run
abbrev pub Marks : ℕ → ℕ → List ℕ → ℕ → State → List ℕ → Type 0
Marks n c xs x v ys =
    (A B : List Cell) (e : Event) (free : List ℕ) → Stands n c xs (A ++ cell x (unrun e) ∷ B) free → StateFits v
    → NoneIn n (unrun_ring e.target) A → NoneIn n (run_ring n e.target) B → Stands n c ys (A ++ cell x (ran e v) ∷ B) free

-- the last run event of a station, of which none is unrun before it, is unrun again
abbrev pub Unmarks : ℕ → ℕ → List ℕ → ℕ → List ℕ → Type 0
Unmarks n c xs x ys =
    (A B : List Cell) (e : Event) (b : State) (free : List ℕ) → Stands n c xs (A ++ cell x (ran e b) ∷ B) free
    → NoneIn n (unrun_ring e.target) A → NoneIn n (run_ring n e.target) B → Stands n c ys (A ++ cell x (unrun e) ∷ B) free

-- an unrun event leaves, and its slot is free
abbrev pub Drops : ℕ → ℕ → List ℕ → ℕ → List ℕ → Type 0
Drops n c xs x ys =
    (A B : List Cell) (e : Event) (free : List ℕ) → Stands n c xs (A ++ cell x (unrun e) ∷ B) free → Stands n c ys (A ++ B) (x ∷ free)

-- a run event leaves, and its slot is free
abbrev pub Releases : ℕ → ℕ → List ℕ → ℕ → List ℕ → Type 0
Releases n c xs x ys =
    (A B : List Cell) (e : Event) (b : State) (free : List ℕ) → Stands n c xs (A ++ cell x (ran e b) ∷ B) free → Stands n c ys (A ++ B) (x ∷ free)

-- ---- all slots

-- the nodes of slots 0 to i - 1
unfoldable pub places : ℕ → ℕ → List ℕ
places n zero = []
places n (suc i) = places n i ++ node_of n i ∷ []

-- whatever the bytes held
abbrev pub Clears : ℕ → ℕ → List ℕ → List ℕ → Type 0
Clears n c xs ys = n ≤ 256 → c ≤ 4096 → slot_row n 0 + index_bytes n c ≤ length xs → Stands n c ys [] (places n c)

-- ---- what the changes leave of the slots, on any bytes

-- each slot's numbers but the status, and the status of every slot but that of node x, are as they were
pub record Spares (n c x : ℕ) (xs ys : List ℕ) : Type 0 where
  pub numbers : (i k : ℕ) → i < c → k < 4 → k ≢ status_number → load_at 2 (number_place n i k) ys ≡ load_at 2 (number_place n i k) xs
  pub statuses : (i : ℕ) → i < c → i ≢ slot_of n x → load_at 2 (slot_row n i + 60) ys ≡ load_at 2 (slot_row n i + 60) xs

-- where node x is a slot's, its status is v
abbrev pub Sets : ℕ → ℕ → ℕ → ℕ → List ℕ → List ℕ → Type 0
Sets n c x v xs ys = IsSlot n c (length xs) x → load_at 2 (slot_row n (slot_of n x) + 60) ys ≡ v
