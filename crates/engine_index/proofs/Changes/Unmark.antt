-- A station's last run event is unrun again: its node leaves the log and goes to the front of the waiting ring.
use mathlib.Core.Path.{refl, ◌∙◌}
use mathlib.Core.Logic.{inl, inr}
use mathlib.Core.List.{List, ◌∷◌, ◌++◌}
use Prim.Native.Nat.{ℕ, ◌+◌, ◌*◌}
use native.Mathlib.Omega.{arith}
use Rattle.words.specs.Le.{store_at}
use Rattle.line.specs.declared.Event.{Event}
use Rattle.line.specs.declared.State.{State}
use Rattle.rules.specs.Held.{unrun, ran}
use Rattle.rings.specs.Table.{link_after, unlinked}
use Rattle.rings.specs.Ring.{Rings}
use Rattle.rings.proofs.Confined.{insert_frame, unlink_frame}
use Rattle.rings.proofs.Families.{rings_elsewhere, rings_unlink}
use Rattle.engine_rows.specs.Layout.{slot_row}
use Rattle.engine_index.specs.Layout.{links_at, log_at, nodes_of, slot_of}
use Rattle.engine_index.specs.Represents.{Cell, cell, has_run, nodes_by, contents, Stands, NoneIn}
use Rattle.engine_index.proofs.Places.Layout.{least, one, only, from_links, links_log, slot_links, slot_log, slot_below}
use Rattle.engine_index.proofs.Rings.Contents.{by_append, by_in, by_out, nodes_none}
use Rattle.engine_index.proofs.Rings.NodeMoves.{take_out, out_free, put_in}
use Rattle.engine_index.proofs.Rings.Order.{sorted_swap}
use Rattle.engine_index.proofs.Slots.SlotBytes.{Else, else_on, else_links, else_slot, links_kept, held_kept, held_event, status_frame, unrun_stored}
use Rattle.engine_index.proofs.Slots.OtherSlots.{others, others_free, stored_else, free_else, stored_drop, stored_insert}
use Rattle.engine_index.proofs.Changes.Mark.{node_of}

module _ (n c : ℕ) (xs : List ℕ) (x : ℕ) (e : Event) where
  abbrev o : ℕ
  o = links_at n c

  abbrev l : ℕ
  l = log_at n c

  abbrev k : ℕ
  k = nodes_of n c

  abbrev row : ℕ
  row = slot_row n (slot_of n x)

  abbrev stored₁ : List ℕ
  stored₁ = store_at 2 (row + 60) 1 xs

  abbrev unlogged₁ : List ℕ
  unlogged₁ = unlinked stored₁ l k x

  abbrev out₁ : List ℕ
  out₁ = unlinked unlogged₁ o k x

  abbrev pub unmark_bytes : List ℕ
  unmark_bytes = link_after out₁ o k e.target x

  pub unmark_stands : (A B : List Cell) (b : State) (free : List ℕ) → Stands n c xs (A ++ cell x (ran e b) ∷ B) free
      → NoneIn n e.target A → NoneIn n (n + e.target) B → Stands n c unmark_bytes (A ++ cell x (unrun e) ∷ B) free
  unmark_stands A B b free S first last =
      let s = e.target in
      let y : Cell = cell x (ran e b) in
      let z : Cell = cell x (unrun e) in
      let w = node_of A y B S in
      let G = status_frame n (slot_of n x) 1 xs in
      let D = unlink_frame stored₁ l k x in
      let U = unlink_frame unlogged₁ o k x in
      let I = insert_frame out₁ o k s x in
      let F₂ = rings_elsewhere D (inr (links_log n c)) (rings_elsewhere G (inl (slot_links n c x w.1 w.3)) S.rings) in
      let F₃ = take_out n A y B free (omega (arith, w.2)) F₂ in
      let out = out_free n A y B free (omega (arith, w.2)) F₂ in
      let F₄ : Rings unmark_bytes o k (2 * n + 1) (contents n (A ++ z ∷ B) free) =
      rw (nodes_none n s A first) at (put_in n A z B free (omega (arith, w.2)) out w.3 F₃) in
      let L₂ =
      rings_unlink (rings_elsewhere G (inl (slot_log n c x w.1 w.3)) S.log) (λ _. nodes_by has_run (A ++ z ∷ B)) 0 one (nodes_by has_run A)
      (nodes_by has_run B) x (λ u h d. absurd (only u h d)) (by_in has_run A y B refl) (by_out has_run A z B refl ∙ by_append has_run A B) in
      let T = stored_drop n xs A y B S.stored in
      let a = others n c x (A ++ B) free F₃ out xs T in
      let q = slot_of n x in
      let E₄ : Else n c q xs unmark_bytes =
      else_on (else_slot n c q (omega arith) (omega arith) G)
      (else_on (else_links n c q (from_links n c) D) (else_on (else_links n c q (least o) U) (else_links n c q (least o) I))) in
      let i = slot_below n c x w.1 w.3 in
      let H₁ = unrun_stored n x e xs (omega (arith, S.room, w.1, w.3)) (held_event n xs x (ran e b) w.0) in
      let H₄ =
      held_kept n x (links_kept n c q i (least o) I) (unrun e)
      (held_kept n x (links_kept n c q i (least o) U) (unrun e) (held_kept n x (links_kept n c q i (from_links n c) D) (unrun e) H₁)) in
      record {
        stations = S.stations;
        capacity = S.capacity;
        room = rw E₄.size S.room;
        rings = F₄;
        log = rings_elsewhere I (inl (links_log n c)) (rings_elsewhere U (inl (links_log n c)) L₂);
        stored = stored_insert n unmark_bytes A z B H₄ w.1 w.2 (stored_else n c x w.1 E₄ (A ++ B) a T);
        unused = free_else n c x w.1 E₄ free (others_free n c x (A ++ B) free F₃ out) S.unused;
        sorted = sorted_swap A y z B refl S.sorted;
      }
