-- An event leaves, unrun from its ring, run from the log too, and its node goes to the front of the free ring.
use mathlib.Core.Path.{◌≡◌, refl, ◌∙◌}
use mathlib.Core.Logic.{inl, inr}
use mathlib.Core.List.{List, ◌∷◌, ◌++◌}
use Prim.Native.Nat.{ℕ, ◌+◌, ◌*◌}
use native.Mathlib.Omega.{arith}
use Rattle.words.specs.Le.{store_at}
use Rattle.line.specs.declared.Event.{Event}
use Rattle.line.specs.declared.State.{State}
use Rattle.rules.specs.Held.{Held, unrun, ran}
use Rattle.rings.specs.Table.{unlinked}
use Rattle.rings.specs.Ring.{Rings}
use Rattle.rings.proofs.Confined.{insert_frame, unlink_frame}
use Rattle.rings.proofs.Families.{rings_elsewhere, rings_unlink}
use Rattle.engine_rows.specs.Layout.{slot_row}
use Rattle.engine_index.specs.Layout.{links_at, log_at, nodes_of, slot_of}
use Rattle.engine_index.specs.Represents.{Cell, cell, has_run, nodes_by, contents, status_at, Stands}
use Rattle.engine_index.specs.Steps.{freed}
use Rattle.engine_index.proofs.Places.Layout.{least, one, only, links_log, slot_links, slot_log, slot_below}
use Rattle.engine_index.proofs.Rings.Contents.{by_append, by_in, by_out}
use Rattle.engine_index.proofs.Rings.NodeMoves.{take_out, out_free, put_free}
use Rattle.engine_index.proofs.Rings.Order.{sorted_drop}
use Rattle.engine_index.proofs.Slots.SlotBytes.{Else, else_on, else_links, else_slot, links_kept, status_kept, status_frame, status_stored}
use Rattle.engine_index.proofs.Slots.OtherSlots.{ring_below, others, others_free, stored_else, free_else, stored_drop}
use Rattle.engine_index.proofs.Changes.Mark.{node_of}

module _ (n c : ℕ) (xs : List ℕ) (x : ℕ) where
  abbrev o : ℕ
  o = links_at n c

  abbrev l : ℕ
  l = log_at n c

  abbrev k : ℕ
  k = nodes_of n c

  abbrev row : ℕ
  row = slot_row n (slot_of n x)

  -- from bytes t in which the log has no node x any more
  freed_stands : (t : List ℕ) (A : List Cell) (h : Held) (B : List Cell) (free : List ℕ) → Stands n c xs (A ++ cell x h ∷ B) free
      → Else n c (slot_of n x) xs t → Rings t o k (2 * n + 1) (contents n (A ++ cell x h ∷ B) free)
      → Rings t l k 1 (λ _. nodes_by has_run (A ++ B)) → Stands n c (freed t n o k x) (A ++ B) (x ∷ free)
  unfolding freed
  freed_stands t A h B free S E F L =
      let y : Cell = cell x h in
      let w = node_of A y B S in
      let q = slot_of n x in
      let t₁ = store_at 2 (row + 60) 0 t in
      let t₂ = unlinked t₁ o k x in
      let G = status_frame n q 0 t in
      let U = unlink_frame t₁ o k x in
      let I = insert_frame t₂ o k (2 * n) x in
      let F₁ = rings_elsewhere G (inl (slot_links n c x w.1 w.3)) F in
      let F₂ = take_out n A y B free (ring_below n h w.2) F₁ in
      let out = out_free n A y B free (ring_below n h w.2) F₁ in
      let T = stored_drop n xs A y B S.stored in
      let a = others n c x (A ++ B) free F₂ out xs T in
      let E₃ =
      else_on E
      (else_on (else_slot n c q (omega arith) (omega arith) G) (else_on (else_links n c q (least o) U) (else_links n c q (least o) I))) in
      let i = slot_below n c x w.1 w.3 in
      let z : status_at n x t₁ ≡ 0 = status_stored n x 0 t (omega (arith, S.room, w.1, w.3, E.size)) (omega arith) in
      record {
        stations = S.stations;
        capacity = S.capacity;
        room = rw E₃.size S.room;
        rings = put_free n (A ++ B) x free out w.3 F₂;
        log = rings_elsewhere I (inl (links_log n c)) (rings_elsewhere U (inl (links_log n c)) (rings_elsewhere G (inl (slot_log n c x w.1 w.3)) L));
        stored = stored_else n c x w.1 E₃ (A ++ B) a T;
        unused = (
          status_kept n x (links_kept n c q i (least o) I) ∙ status_kept n x (links_kept n c q i (least o) U) ∙ z,
          w.1,
          free_else n c x w.1 E₃ free (others_free n c x (A ++ B) free F₂ out) S.unused,
        );
        sorted = sorted_drop A y B S.sorted;
      }

  pub drop_stands : (A B : List Cell) (e : Event) (free : List ℕ) → Stands n c xs (A ++ cell x (unrun e) ∷ B) free
      → Stands n c (freed xs n o k x) (A ++ B) (x ∷ free)
  drop_stands A B e free S =
      freed_stands xs A (unrun e) B free S (record { size = refl; loads = λ m j _ _. refl }) S.rings (rw (by_out has_run A (cell x (unrun e)) B refl) at S.log)

  pub release_stands : (A B : List Cell) (e : Event) (b : State) (free : List ℕ) → Stands n c xs (A ++ cell x (ran e b) ∷ B) free
      → Stands n c (freed (unlinked xs l k x) n o k x) (A ++ B) (x ∷ free)
  release_stands A B e b free S =
      let y : Cell = cell x (ran e b) in
      freed_stands (unlinked xs l k x) A (ran e b) B free S (else_links n c (slot_of n x) (omega arith) (unlink_frame xs l k x))
      (rings_elsewhere (unlink_frame xs l k x) (inr (links_log n c)) S.rings)
      (rings_unlink S.log (λ _. nodes_by has_run (A ++ B)) 0 one (nodes_by has_run A) (nodes_by has_run B) x (λ u h d. absurd (only u h d))
      (by_in has_run A y B refl) (by_append has_run A B))
