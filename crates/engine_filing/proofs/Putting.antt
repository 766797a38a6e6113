-- An event takes the first free slot; where no slot is free, nothing is done.
use mathlib.Core.Path.{◌≡◌, refl, sym, ap, ◌∙◌}
use mathlib.Core.List.{List}
use Prim.Native.Nat.{ℕ, ◌≤◌, ◌<◌}
use native.Mathlib.Omega.{arith}
use lib.ListN.{length}
use Rattle.line.specs.declared.Event.{Event}
use Rattle.rings.specs.Table.{next_of}
use Rattle.rings.proofs.Frames.{frame_same}
use Rattle.engine_rows.specs.Layout.{slot_row}
use Rattle.engine_index.specs.Layout.{free_ring, links_at, index_bytes, IsSlot, slot_found}
use Rattle.engine_index.specs.Promises.{Spares, Puts}
use Rattle.engine_index.proofs.Places.FoundSlot.{finds}
use Rattle.engine_index.proofs.Slots.SlotsSpared.{spares_same}
use Rattle.engine_index.proofs.Changes.Confined.{Inside}
use Rattle.engine_index.proofs.Changes.Put.{first_free_lem}
use Rattle.engine_ends.specs.Ends.{first_free, spare_node}
use Rattle.engine_ends.proofs.Read.{free_next, spare_is, spare_none}
use Rattle.engine_ends.proofs.Ends.{first_free_is}

module _ (n c : ℕ) (xs : List ℕ) (e : Event) where
  -- what the code has at its end
  abbrev pub PutEnd : ℕ → List ℕ → Type 0
  PutEnd r ys = Inside n c xs ys × (Puts n c xs e r ys × (Spares n c r xs ys × ((r ≡ spare_node xs n c) × (r ≡ 0 → ys ≡ xs))))

  module _ {x i : ℕ} (ex : x ≡ first_free xs n c) (ei : i ≡ slot_found n c (length xs) x) where
    module _ (h : i < c) where
      abbrev pub found : IsSlot n c (length xs) x
      found = ((finds ei).sound h).0

      -- the code's node is that after the free ring's sentinel
      pub next_at : {o : ℕ} → o ≡ links_at n c → x ≡ next_of xs o (free_ring n)
      next_at eo = free_next xs n c ex found.above ∙ ap (λ (l : ℕ). next_of xs l (free_ring n)) (sym eo)

    pub put_done : {ys : List ℕ} → i < c → Inside n c xs ys × (Puts n c xs e x ys × Spares n c x xs ys) → PutEnd x ys
    put_done h P =
        let above = (found h).above in
        (P.0, (P.1.0, (P.1.1, (spare_is xs n c ex ei h, (λ z. absurd (omega arith))))))

    pub put_none : c ≤ i → PutEnd 0 xs
    put_none h = (frame_same (slot_row n 0) (index_bytes n c) xs, (none, (spares_same n c 0 xs, (spare_none xs n c ex ei h, (λ _. refl)))))
      where
        none : Puts n c xs e 0 xs
        none A B y fs S _ _ _ _ =
            let z : x ≡ y = ex ∙ first_free_is S in
            let f = first_free_lem S in
            let s : IsSlot n c (length xs) x =
            rw z (record { stations = S.stations; capacity = S.capacity; room = S.room; above = f.1; below = f.2 }) in
            absurd (omega (arith, ((finds ei).complete s).0))
