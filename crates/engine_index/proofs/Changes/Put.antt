-- An event takes the first free slot and goes to its place in its station's ring.
use mathlib.Core.Path.{◌≡◌, refl}
use mathlib.Core.Logic.{inl}
use mathlib.Core.List.{List, ◌∷◌, ◌++◌}
use Prim.Native.Nat.{ℕ, ◌+◌, ◌*◌, ◌<◌}
use native.Mathlib.Omega.{arith}
use lib.Dec.{eqb}
use lib.ListN.{length}
use Rattle.words.specs.Le.{store_at}
use Rattle.line.specs.declared.Event.{Event}
use Rattle.rules.specs.Held.{unrun}
use Rattle.rings.specs.Table.{next_of, unlinked, Frame}
use Rattle.rings.specs.Ring.{last_of, RingIn}
use Rattle.rings.proofs.Counts.{hit_same}
use Rattle.rings.proofs.Places.{below, first_of}
use Rattle.rings.proofs.Confined.{insert_frame, unlink_frame}
use Rattle.rings.proofs.Families.{rings_elsewhere}
use Rattle.engine_rows.specs.Layout.{slot_row}
use Rattle.entry.specs.Entry.{put_event}
use Rattle.line.specs.Widths.{EventFits}
use Rattle.engine_index.specs.Layout.{links_at, nodes_of, slot_of}
use Rattle.engine_index.specs.Represents.{Cell, cell, ring_of, has_run, AllBefore, AllAfter, Stands}
use Rattle.engine_index.specs.Steps.{filed}
use Rattle.engine_index.proofs.Places.Layout.{least, links_log, slot_links, slot_log, slot_below}
use Rattle.engine_index.proofs.Rings.Contents.{by_out, nodes_in, nodes_append, contents_free}
use Rattle.engine_index.proofs.Rings.NodeMoves.{ring_of_lem, put_in, take_free, taken_free}
use Rattle.engine_index.proofs.Rings.Order.{sorted_insert}
use Rattle.engine_index.proofs.Slots.SlotBytes.{Else, else_on, else_links, else_slot, links_kept, held_kept, put_frame, put_stored}
use Rattle.engine_index.proofs.Slots.OtherSlots.{others, others_free, stored_else, free_else, stored_split, stored_insert}
use Rattle.engine_index.proofs.Rings.Filing.{filed_at}

-- the first free node is the free ring's first
pub first_free_lem : {n c : ℕ} {xs : List ℕ} {cells : List Cell} {x : ℕ} {fs : List ℕ} → Stands n c xs cells (x ∷ fs)
    → (next_of xs (links_at n c) (2 * n) ≡ x) × (2 * n < x) × (x < nodes_of n c)
first_free_lem {n} {c} {xs} {cells} {x} {fs} S =
    let R : RingIn xs (links_at n c) (nodes_of n c) (2 * n) (x ∷ fs) = rw (contents_free n cells (x ∷ fs)) at (S.rings.ring (2 * n) (omega arith)) in
    (first_of R, S.unused.1, below R x (omega (arith, hit_same x)))

module _ (n c : ℕ) (xs : List ℕ) (e : Event) (x : ℕ) where
  abbrev o : ℕ
  o = links_at n c

  abbrev k : ℕ
  k = nodes_of n c

  abbrev row : ℕ
  row = slot_row n (slot_of n x)

  abbrev out₁ : List ℕ
  out₁ = unlinked xs o k x

  abbrev stored₁ : List ℕ
  stored₁ = store_at 2 (row + 60) 1 (put_event row e out₁)

  abbrev pub put_bytes : List ℕ
  put_bytes = filed stored₁ n o k e.target e x

  pub put_stands : (A B : List Cell) (fs : List ℕ) → Stands n c xs (A ++ B) (x ∷ fs) → EventFits e → e.target < n → AllBefore A e → AllAfter e B
      → Stands n c put_bytes (A ++ cell x (unrun e) ∷ B) fs
  put_stands A B fs S fit l lo hi =
      let s = e.target in
      let y : Cell = cell x (unrun e) in
      let w = first_free_lem S in
      let F₁ = take_free n (A ++ B) x fs S.rings in
      let out = taken_free n (A ++ B) x fs S.rings in
      let G = put_frame n (slot_of n x) e 1 out₁ in
      let F₃ = rings_elsewhere G (inl (slot_links n c x w.1 w.2)) F₁ in
      let size : length out₁ ≡ length xs = (unlink_frame xs o k x).size in
      let H = put_stored n x e out₁ (omega (arith, S.room, w.1, w.2, size)) fit in
      let E₁ : Else n c (slot_of n x) xs out₁ = else_links n c (slot_of n x) (omega arith) (unlink_frame xs o k x) in
      let E₃ = else_on E₁ (else_slot n c (slot_of n x) (omega arith) (omega arith) G) in
      let a = others n c x (A ++ B) fs F₁ out xs S.stored in
      let T₃ = stored_else n c x w.1 E₃ (A ++ B) a S.stored in
      let P = stored_split n stored₁ A B T₃ in
      let R : RingIn stored₁ o k s (nodes_in n s A ++ nodes_in n s B) = rw (nodes_append n s A B) at (ring_of_lem n (A ++ B) fs s (omega arith) F₃) in
      let at = filed_at stored₁ n s e (λ h. eqb (ring_of n h) s) o k A B x (omega arith) R P.0 P.1 lo hi in
      let K : Frame o (4 * k) stored₁ put_bytes = rw at (insert_frame stored₁ o k (last_of s (nodes_in n s A)) x) in
      let E₄ = else_on E₃ (else_links n c (slot_of n x) (omega arith) K) in
      record {
        stations = S.stations;
        capacity = S.capacity;
        room = rw E₄.size S.room;
        rings = rw at (put_in n A y B fs (omega arith) out w.2 F₃);
        log =
            rw (by_out has_run A y B refl)
            (rings_elsewhere K (inl (links_log n c))
            (rings_elsewhere G (inl (slot_log n c x w.1 w.2)) (rings_elsewhere (unlink_frame xs o k x) (inl (links_log n c)) S.log)));
        stored =
            stored_insert n put_bytes A y B (held_kept n x (links_kept n c (slot_of n x) (slot_below n c x w.1 w.2) (least o) K) (unrun e) H) w.1 l
            (stored_else n c x w.1 E₄ (A ++ B) a S.stored);
        unused = free_else n c x w.1 E₄ fs (others_free n c x (A ++ B) fs F₁ out) S.unused.2;
        sorted = sorted_insert A y B S.sorted lo hi;
      }
