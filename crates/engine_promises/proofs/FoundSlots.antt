-- The node of a cell is a slot's; so where no slot is found for a node, no cell has it.
use mathlib.Core.Path.{◌≡◌}
use mathlib.Core.List.{List}
use Prim.Native.Nat.{ℕ, ◌≤◌, ◌<◌}
use native.Mathlib.Omega.{arith}
use lib.ListN.{length}
use Rattle.line.specs.declared.Event.{Event}
use Rattle.engine_rows.specs.Layout.{slot_row}
use Rattle.entry.specs.Entry.{event_at}
use Rattle.engine_index.specs.Layout.{slot_of, IsSlot}
use Rattle.engine_index.proofs.Places.FoundSlot.{FindsSlot}
use Rattle.engine_index.specs.Represents.{Cell, Stands}
use Rattle.engine_events.specs.Represents.{Has}
use Rattle.engine_moves.proofs.Cells.Members.{member}

pub cell_slot : {n c : ℕ} {xs : List ℕ} {cells : List Cell} {free : List ℕ} → Stands n c xs cells free → (y : Cell) → Has y cells
    → IsSlot n c (length xs) y.node
cell_slot S y m =
    let w = member S y m in
    record { stations = S.stations; capacity = S.capacity; room = S.room; above = w.1; below = w.3 }

module _ {n c bytes x i : ℕ} (F : FindsSlot n c bytes x i) where
  pub no_slot : c ≤ i → IsSlot n c bytes x → ⊥
  no_slot h s = omega (arith, (F.complete s).0)

  -- the event in the slot that was found
  pub slot_event : (xs : List ℕ) {v : Event} → i < c → v ≡ event_at (slot_row n i) xs → v ≡ event_at (slot_row n (slot_of n x)) xs
  slot_event xs h e = rw (F.sound h).1 at e
