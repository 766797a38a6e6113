-- A station's first unrun event has run: its node goes to the end of the run ring, and to its place in the log.
use mathlib.Core.Path.{refl}
use mathlib.Core.Logic.{inl, inr}
use mathlib.Core.List.{List, ◌∷◌, ◌++◌, append-nil}
use Prim.Native.Nat.{ℕ, ◌+◌, ◌*◌, ◌<◌}
use native.Mathlib.Omega.{arith}
use Rattle.words.specs.Le.{store_at}
use Rattle.line.specs.declared.Event.{Event}
use Rattle.line.specs.declared.State.{State}
use Rattle.rules.specs.Held.{unrun, ran, event}
use Rattle.rings.specs.Table.{prev_of, link_after, unlinked, Frame}
use Rattle.rings.specs.Ring.{last_of, RingIn, Rings}
use Rattle.rings.proofs.Counts.{hit_same, hit_ne, occurs_append}
use Rattle.rings.proofs.Places.{below, last_of_lem}
use Rattle.rings.proofs.Confined.{insert_frame, unlink_frame}
use Rattle.rings.proofs.Families.{rings_elsewhere, rings_insert}
use Rattle.engine_rows.specs.Layout.{slot_row}
use Rattle.engine_records.specs.Records.{put_state}
use Rattle.line.specs.Widths.{StateFits}
use Rattle.engine_index.specs.Layout.{links_at, log_at, nodes_of, slot_of}
use Rattle.engine_index.specs.Represents.{Cell, cell, ring_of, has_run, nodes_by, contents, HeldAt, Stands, NoneIn}
use Rattle.engine_index.specs.Steps.{filed}
use Rattle.engine_index.proofs.Places.Layout.{least, one, only, from_links, links_log, slot_links, slot_log, slot_below, slot_room}
use Rattle.engine_index.proofs.Rings.Contents.{by_append, by_in, by_out, nodes_in, nodes_append, nodes_none}
use Rattle.engine_index.proofs.Rings.NodeMoves.{ring_of_lem, ring_at, take_out, out_free, put_in}
use Rattle.engine_index.proofs.Rings.Order.{sorted_before, sorted_after, sorted_swap}
use Rattle.engine_index.proofs.Slots.SlotBytes.{Else, else_on, else_links, else_slot, links_kept, held_kept, held_event, save_frame, ran_stored}
use Rattle.engine_index.proofs.Slots.OtherSlots.{ring_below, others, others_free, none_by, stored_else, free_else, stored_split, stored_drop, stored_at, stored_insert}
use Rattle.engine_index.proofs.Rings.Filing.{filed_at}

-- the node of a cell lies among the slots' nodes
pub node_of : {n c : ℕ} {xs : List ℕ} (A : List Cell) (y : Cell) (B : List Cell) {free : List ℕ} → Stands n c xs (A ++ y ∷ B) free
    → HeldAt n xs y.node y.held × (2 * n < y.node) × ((event y.held).target < n) × (y.node < nodes_of n c)
node_of {n} {c} {xs} A y B {free} S =
    let h = stored_at n xs A y B S.stored in
    let u = ring_of n y.held in
    let R = ring_at n A y B free (ring_below n y.held h.2) S.rings in
    (h.0, h.1, h.2, below R y.node (omega (arith, hit_same y.node, occurs_append y.node (nodes_in n u A) (y.node ∷ nodes_in n u B))))

module _ (n c : ℕ) (xs : List ℕ) (x : ℕ) (e : Event) (v : State) where
  abbrev o : ℕ
  o = links_at n c

  abbrev l : ℕ
  l = log_at n c

  abbrev k : ℕ
  k = nodes_of n c

  abbrev row : ℕ
  row = slot_row n (slot_of n x)

  abbrev saved₁ : List ℕ
  saved₁ = store_at 2 (row + 60) 2 (put_state (row + 24) v xs)

  abbrev out₁ : List ℕ
  out₁ = unlinked saved₁ o k x

  abbrev in₁ : List ℕ
  in₁ = link_after out₁ o k (prev_of out₁ o (n + e.target)) x

  abbrev pub mark_bytes : List ℕ
  mark_bytes = filed in₁ n l k 0 e x

  pub mark_stands : (A B : List Cell) (free : List ℕ) → Stands n c xs (A ++ cell x (unrun e) ∷ B) free → StateFits v
      → NoneIn n e.target A → NoneIn n (n + e.target) B → Stands n c mark_bytes (A ++ cell x (ran e v) ∷ B) free
  mark_stands A B free S fit first last =
      let s = e.target in
      let y : Cell = cell x (unrun e) in
      let z : Cell = cell x (ran e v) in
      let w = node_of A y B S in
      let G = save_frame n (slot_of n x) v 2 xs in
      let F₂ = rings_elsewhere G (inl (slot_links n c x w.1 w.3)) S.rings in
      let F₃ = take_out n A y B free (omega (arith, w.2)) F₂ in
      let out = out_free n A y B free (omega (arith, w.2)) F₂ in
      let R : RingIn out₁ o k (n + s) (nodes_in n (n + s) A) =
      rw (nodes_append n (n + s) A B, nodes_none n (n + s) B last, append-nil) at (ring_of_lem n (A ++ B) free (n + s) (omega (arith, w.2)) F₃) in
      let F₄ : Rings in₁ o k (2 * n + 1) (contents n (A ++ z ∷ B) free) =
      rw (last_of_lem R) (put_in n A z B free (omega (arith, w.2)) out w.3 F₃) in
      let D = unlink_frame saved₁ o k x in
      let I = insert_frame out₁ o k (prev_of out₁ o (n + s)) x in
      let L : Rings xs l k 1 (λ _. nodes_by has_run (A ++ B)) = rw (by_out has_run A y B refl) at S.log in
      let L₄ = rings_elsewhere I (inl (links_log n c)) (rings_elsewhere D (inl (links_log n c)) (rings_elsewhere G (inl (slot_log n c x w.1 w.3)) L)) in
      let T = stored_drop n xs A y B S.stored in
      let a = others n c x (A ++ B) free F₃ out xs T in
      let E₂ : Else n c (slot_of n x) xs saved₁ = else_slot n c (slot_of n x) (omega arith) (omega arith) G in
      let E₄ : Else n c (slot_of n x) xs in₁ =
      else_on E₂ (else_on (else_links n c (slot_of n x) (least o) D) (else_links n c (slot_of n x) (least o) I)) in
      let P = stored_split n in₁ A B (stored_else n c x w.1 E₄ (A ++ B) a T) in
      let Q : RingIn in₁ l k 0 (nodes_by has_run A ++ nodes_by has_run B) = rw (by_append has_run A B) at (L₄.ring 0 one) in
      let at = filed_at in₁ n 0 e has_run l k A B x (omega arith) Q P.0 P.1 (sorted_before A y B S.sorted) (sorted_after A y B S.sorted) in
      let J : Frame l (4 * k) in₁ mark_bytes = rw at (insert_frame in₁ l k (last_of 0 (nodes_by has_run A)) x) in
      let E₅ = else_on E₄ (else_links n c (slot_of n x) (from_links n c) J) in
      let i = slot_below n c x w.1 w.3 in
      let H₂ = ran_stored n x e v xs (slot_room n c x w.1 w.3 S.room) fit (held_event n xs x (unrun e) w.0) in
      let H₅ =
      held_kept n x (links_kept n c (slot_of n x) i (from_links n c) J) (ran e v)
      (held_kept n x (links_kept n c (slot_of n x) i (least o) I) (ran e v)
      (held_kept n x (links_kept n c (slot_of n x) i (least o) D) (ran e v) H₂)) in
      record {
        stations = S.stations;
        capacity = S.capacity;
        room = rw E₅.size S.room;
        rings = rings_elsewhere J (inr (links_log n c)) F₄;
        log =
            rw at
            (rings_insert L₄ (λ _. nodes_by has_run (A ++ z ∷ B)) 0 one (nodes_by has_run A) (nodes_by has_run B) x (λ u h d. absurd (only u h d))
            (by_append has_run A B) (by_in has_run A z B refl) (omega (arith, none_by n c x has_run (A ++ B) a, hit_ne x 0 (omega (arith, w.1)))) w.3);
        stored = stored_insert n mark_bytes A z B H₅ w.1 w.2 (stored_else n c x w.1 E₅ (A ++ B) a T);
        unused = free_else n c x w.1 E₅ free (others_free n c x (A ++ B) free F₃ out) S.unused;
        sorted = sorted_swap A y z B refl S.sorted;
      }
