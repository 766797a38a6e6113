-- Where the code does nothing, no event is held at the node: the bytes hold no queue, or the node is no slot's, or its event is at no station.
use mathlib.Core.Path.{◌≡◌, ap, ◌∙◌}
use mathlib.Core.Bool.{Bool, false}
use mathlib.Core.List.{List}
use Prim.Native.Nat.{ℕ, ◌≤◌}
use native.Mathlib.Omega.{arith}
use lib.ListN.{length}
use Rattle.line.specs.declared.Event.{Event}
use Rattle.line.specs.Station.{Plan}
use Rattle.rules.specs.Held.{Held, event, Queue}
use Rattle.engine_rows.specs.Layout.{slot_row}
use Rattle.entry.specs.Entry.{event_at}
use Rattle.engine_index.specs.Layout.{slot_of, IsSlot}
use Rattle.engine_index.proofs.Places.FoundSlot.{FindsSlot}
use Rattle.engine_index.specs.Represents.{Cell, cell}
use Rattle.engine_index.proofs.Slots.SlotBytes.{held_event}
use Rattle.engine_events.specs.Represents.{fits_in, Has, Stores}
use Rattle.engine_events.proofs.Fitting.{fits_gone}
use Rattle.engine_moves.proofs.Cells.Members.{member, member_target}

-- there is no cell of node x
abbrev pub Nowhere : ℕ → ℕ → List ℕ → ℕ → Type 0
Nowhere n c xs x = (p : Plan) (now : ℕ) (q : Queue) (cells : List Cell) (h : Held) → Stores p n c now xs q cells → Has (cell x h) cells → ⊥

module _ (n c x : ℕ) (xs : List ℕ) where
  pub nowhere_fits : {v : Bool} → v ≡ fits_in n c (length xs) → v ≡ false → Nowhere n c xs x
  nowhere_fits e z p now q cells h S m = fits_gone e z S

  -- a cell's node is a slot's
  is_slot : {p : Plan} {now : ℕ} {q : Queue} {cells : List Cell} (h : Held) → Stores p n c now xs q cells → Has (cell x h) cells
      → IsSlot n c (length xs) x
  is_slot h S m =
      let T = S.stands in
      let w = member T (cell x h) m in
      record { stations = T.stations; capacity = T.capacity; room = T.room; above = w.1; below = w.3 }

  pub nowhere_slot : {i : ℕ} → FindsSlot n c (length xs) x i → c ≤ i → Nowhere n c xs x
  nowhere_slot F l p now q cells h S m = omega (arith, (F.complete (is_slot h S m)).0)

  pub event_is : {p : Plan} {now : ℕ} {q : Queue} {cells : List Cell} (h : Held) → Stores p n c now xs q cells → Has (cell x h) cells
      → event_at (slot_row n (slot_of n x)) xs ≡ event h
  event_is h S m = held_event n xs x h (member S.stands (cell x h) m).0

  pub nowhere_target : {i : ℕ} {e : Event} → i ≡ slot_of n x → e ≡ event_at (slot_row n i) xs → n ≤ e.target → Nowhere n c xs x
  nowhere_target {i} {e} ei q l p now r cells h S m =
      let there : e ≡ event_at (slot_row n (slot_of n x)) xs = rw ei at q in
      omega (arith, member_target S.stands (cell x h) m, ap (λ (f : Event). f.target) (there ∙ event_is h S m))
