-- Where the code does nothing, the bytes stand for no such cell: the node is no slot's, or its event is at no station.
use mathlib.Core.Path.{◌≡◌, ap, ◌∙◌}
use mathlib.Core.List.{List, ◌∷◌, ◌++◌}
use Prim.Native.Nat.{ℕ, ◌≤◌, ◌<◌}
use native.Mathlib.Omega.{arith}
use lib.ListN.{length}
use Rattle.line.specs.declared.Event.{Event}
use Rattle.line.specs.declared.State.{State}
use Rattle.rules.specs.Held.{Held, unrun, ran}
use Rattle.rings.proofs.Frames.{frame_same}
use Rattle.engine_rows.specs.Layout.{slot_row}
use Rattle.entry.specs.Entry.{event_at}
use Rattle.engine_index.specs.Layout.{slot_of, index_bytes, IsSlot}
use Rattle.engine_index.specs.Promises.{Spares, Sets, Marks, Unmarks, Drops, Releases}
use Rattle.engine_index.specs.Represents.{Cell, cell, Stands}
use Rattle.engine_index.proofs.Places.FoundSlot.{FindsSlot}
use Rattle.engine_index.proofs.Slots.SlotBytes.{held_event}
use Rattle.engine_index.proofs.Changes.Mark.{node_of}
use Rattle.engine_index.proofs.Changes.Confined.{Inside}
use Rattle.engine_index.proofs.Slots.SlotsSpared.{spares_same}

-- ---- no event's node

-- node x is no slot's
abbrev pub NoNode : ℕ → ℕ → List ℕ → ℕ → Type 0
NoNode n c xs x = IsSlot n c (length xs) x → ⊥

-- or the event in its slot is at no station
abbrev pub Refused : ℕ → ℕ → List ℕ → ℕ → Type 0
Refused n c xs x = (event_at (slot_row n (slot_of n x)) xs).target < n → NoNode n c xs x

module _ (n c : ℕ) (xs : List ℕ) (x : ℕ) {i : ℕ} (F : FindsSlot n c (length xs) x i) where
  pub found_range : i < c → (n ≤ 256) × (c ≤ 4096)
  found_range h = ((F.sound h).0.stations, (F.sound h).0.capacity)

  pub refused_slot : c ≤ i → NoNode n c xs x
  refused_slot h s = let below = (F.complete s).0 in omega arith

  pub refused_target : {e : Event} → i < c → e ≡ event_at (slot_row n i) xs → n ≤ e.target → Refused n c xs x
  refused_target {e} h ee l t s =
      let z : e ≡ event_at (slot_row n (slot_of n x)) xs = ee ∙ rw (F.sound h).1 in
      omega (arith, t, l, ap (λ (e : Event). e.target) z)

module _ (n c : ℕ) (xs : List ℕ) (x : ℕ) where
  -- no cell's then
  gone : Refused n c xs x → (A : List Cell) (h : Held) (B : List Cell) (free : List ℕ) → Stands n c xs (A ++ cell x h ∷ B) free → ⊥
  gone R A h B free S =
      let w = node_of A (cell x h) B S in
      let s : IsSlot n c (length xs) x =
      record { stations = S.stations; capacity = S.capacity; room = S.room; above = w.1; below = w.3 } in
      R (rw (held_event n xs x h w.0) w.2) s

  unmoved : Inside n c xs xs
  unmoved = frame_same (slot_row n 0) (index_bytes n c) xs

  module _ (R : Refused n c xs x) where
    pub mark_none : (v : State) → Inside n c xs xs × (Marks n c xs x v xs × Spares n c x xs xs)
    mark_none v = (unmoved, ((λ A B e free S _ _ _. absurd (gone R A (unrun e) B free S)), spares_same n c x xs))

    pub unmark_none : Inside n c xs xs
        × (Unmarks n c xs x xs × (Spares n c x xs xs × ((event_at (slot_row n (slot_of n x)) xs).target < n → Sets n c x 1 xs xs)))
    unmark_none = (
      unmoved,
      (
        (λ A B e b free S _ _. absurd (gone R A (ran e b) B free S)),
        (spares_same n c x xs, (λ t s. absurd (R t s))),
      ),
    )

  module _ (R : NoNode n c xs x) where
    pub drop_none : Inside n c xs xs × (Drops n c xs x xs × (Spares n c x xs xs × Sets n c x 0 xs xs))
    drop_none = (
      unmoved,
      (
        (λ A B e free S. absurd (gone (λ _. R) A (unrun e) B free S)),
        (spares_same n c x xs, (λ s. absurd (R s))),
      ),
    )

    pub release_none : Inside n c xs xs × (Releases n c xs x xs × Spares n c x xs xs)
    release_none = (unmoved, ((λ A B e b free S. absurd (gone (λ _. R) A (ran e b) B free S)), spares_same n c x xs))
