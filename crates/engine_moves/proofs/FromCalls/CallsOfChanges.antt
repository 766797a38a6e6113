-- What the calls of a change promise, and what `tell` requires.
use mathlib.Core.Path.{◌≡◌}
use mathlib.Core.Logic.{inr}
use mathlib.Core.Bool.{Bool, true}
use mathlib.Core.List.{List}
use Prim.Native.Nat.{ℕ, ◌+◌, ◌≤◌, ◌<◌}
use native.Mathlib.Omega.{arith}
use lib.ListN.{length}
use Rattle.words.specs.Le.{load_at}
use Rattle.rings.specs.Table.{Frame}
use Rattle.engine_rows.specs.Layout.{slot_row}
use Rattle.engine_index.specs.Layout.{index_bytes}
use Rattle.engine_events.specs.Represents.{fits_in, calendar_at}
use Rattle.engine_moves.specs.Steps.{Tells}
use Rattle.engine_events.proofs.Fitting.{fits_true}

-- the calendar is told
abbrev pub Told : ℕ → ℕ → ℕ → List ℕ → List ℕ → Type 0
Told n c s xs ys = Frame (calendar_at n c) (length xs) xs ys × Tells n c s xs ys

-- the index is changed
abbrev pub Indexed : ℕ → ℕ → List ℕ → List ℕ → Type 0
Indexed n c xs ys = Frame (slot_row n 0) (index_bytes n c) xs ys

-- what `tell` requires
pub tell_room : (n c s : ℕ) {v : Bool} {l m : ℕ} → v ≡ fits_in n c l → v ≡ true → s < n → m ≡ l
    → (n ≤ 256) × (c ≤ 4096) × (s < n) × (calendar_at n c ≤ m)
tell_room n c s {l = l} e t b k = let w = fits_true n c l e t in (w.0, w.1, b, rw k w.2)

-- the statuses stay where the calendar is told
pub told_status : (n c : ℕ) {s : ℕ} {ys zs : List ℕ} → Told n c s ys zs → (i : ℕ) → i < c
    → load_at 2 (slot_row n i + 60) zs ≡ load_at 2 (slot_row n i + 60) ys
told_status n c T i l = T.0.loads 2 (slot_row n i + 60) (inr (omega arith))
