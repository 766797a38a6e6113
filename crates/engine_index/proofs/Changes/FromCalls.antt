-- From what the calls of a function ensure, in their order, to the change that it makes.
use mathlib.Core.Path.{◌≡◌, sym, ap, ◌∙◌}
use mathlib.Core.Logic.{◌≢◌, inl, inr}
use mathlib.Core.Bool.{Bool, true}
use mathlib.Core.List.{List}
use Prim.Native.Nat.{ℕ, ◌+◌, ◌*◌, ◌<◌}
use native.Mathlib.Omega.{arith}
use borrow.Author.Tests.{eq-eqb, ne_eqb}
use lib.ListN.{length}
use Rattle.words.specs.Le.{store_at}
use Rattle.line.specs.declared.Event.{Event}
use Rattle.line.specs.declared.State.{State}
use Rattle.line.specs.Event.{before}
use Rattle.rules.specs.Held.{unrun, ran}
use Rattle.rings.specs.Table.{next_of, prev_of, link_after, unlinked}
use Rattle.rings.specs.Walk.{steps}
use Rattle.rings.proofs.WalkSteps.{at_stop}
use Rattle.rings.proofs.Confined.{unlink_frame}
use Rattle.engine_rows.specs.Layout.{slot_row}
use Rattle.entry.specs.Entry.{event_at, put_event}
use Rattle.engine_records.specs.Records.{put_state}
use Rattle.engine_index.specs.Layout.{links_at, log_at, nodes_of, slot_of}
use Rattle.engine_index.specs.Promises.{Spares, Sets, Puts, Marks, Unmarks, Drops, Releases}
use Rattle.engine_index.specs.Represents.{cell}
use Rattle.engine_index.specs.Steps.{stop_at, filed, freed, Frees}
use Rattle.engine_index.proofs.Places.FoundSlot.{FindsSlot}
use Rattle.engine_index.proofs.Slots.SlotBytes.{held_event}
use Rattle.engine_index.proofs.Changes.Put.{put_bytes, first_free_lem, put_stands}
use Rattle.engine_index.proofs.Changes.Mark.{mark_bytes, node_of, mark_stands}
use Rattle.engine_index.proofs.Changes.Unmark.{unmark_bytes, unmark_stands}
use Rattle.engine_index.proofs.Changes.Free.{drop_stands, release_stands}
use Rattle.engine_index.proofs.Changes.Confined.{Inside, put_inside, mark_inside, unmark_inside, freed_inside, released_inside}
use Rattle.engine_index.proofs.Slots.SlotsSpared.{put_spares, mark_spares, unmark_spares, unmark_sets, freed_spares, freed_sets, released_spares}
use Rattle.engine_index.proofs.Places.Refusals.{drop_none}

-- where the status stands
status : (n i : ℕ) → slot_row n i + 56 + 2 * 2 ≡ slot_row n i + 60
status n i = omega arith

-- ---- the parts

pub stops_at : (xs : List ℕ) (n s : ℕ) (e : Event) {i : ℕ} → i ≡ s → true ≡ stop_at xs n s e i
unfolding stop_at
stops_at xs n s e {i} h = rw (eq-eqb i s h)

pub stops_by : (xs : List ℕ) (n s : ℕ) (e : Event) {i j : ℕ} {r : Bool} → i ≢ s → j ≡ slot_of n i → r ≡ before (event_at (slot_row n j) xs) e
    → r ≡ stop_at xs n s e i
unfolding stop_at
stops_by xs n s e {i} d ej er = rw (ne_eqb i s d, er, ej)

pub looked_up : (xs : List ℕ) (x : ℕ) (n c : ℕ) {o r : ℕ} → o ≡ links_at n c → r ≡ next_of xs o x → r ≡ next_of xs (links_at n c) x
looked_up xs x n c eo er = rw (← eo) er

pub prev_of_lem : (xs : List ℕ) (o : ℕ) {u w r : ℕ} → r ≡ prev_of xs o u → u ≡ w → r ≡ prev_of xs o w
prev_of_lem xs o e q = e ∙ ap (λ (i : ℕ). prev_of xs o i) q

pub link_of : (xs : List ℕ) (o k x : ℕ) {a w : ℕ} {ys : List ℕ} → ys ≡ link_after xs o k a x → a ≡ w → ys ≡ link_after xs o k w x
link_of xs o k x e q = e ∙ ap (λ (i : ℕ). link_after xs o k i x) q

pub filed_made : (xs : List ℕ) (n o k s : ℕ) (e : Event) (x : ℕ) {p a : ℕ} {ys : List ℕ} → p ≡ prev_of xs o s
    → a ≡ steps (prev_of xs o) (stop_at xs n s e) k p → ys ≡ link_after xs o k a x → ys ≡ filed xs n o k s e x
unfolding filed
filed_made xs n o k s e x ep ea e₁ = rw (e₁, ea, ep)

-- the place is after the last one
pub filed_last : (xs : List ℕ) (n o k s : ℕ) (e : Event) (x : ℕ) {p : ℕ} {r : Bool} {ys : List ℕ} → p ≡ prev_of xs o s → r ≡ stop_at xs n s e p → r ≡ true
    → ys ≡ link_after xs o k p x → ys ≡ filed xs n o k s e x
filed_last xs n o k s e x {p} ep er h e₁ = filed_made xs n o k s e x ep (sym (at_stop (prev_of xs o) (stop_at xs n s e) k p (sym er ∙ h))) e₁

-- ---- the changes

module _ (n c : ℕ) (xs : List ℕ) where
  pub put_made : (e : Event) {x o k i : ℕ} {t₁ t₂ t₃ ys : List ℕ} → o ≡ links_at n c → k ≡ nodes_of n c → x ≡ next_of xs o (2 * n)
      → FindsSlot n c (length xs) x i → i < c → t₁ ≡ unlinked xs o k x → t₂ ≡ put_event (slot_row n i) e t₁
      → t₃ ≡ store_at 2 (slot_row n i + 56 + 2 * 2) 1 t₂ → ys ≡ filed t₃ n o k e.target e x → Inside n c xs ys × (Puts n c xs e x ys × Spares n c x xs ys)
  put_made e {x} {o} {k} {i} {t₁} {t₂} {t₃} {ys} eo ek ex F h e₁ e₂ e₃ e₄ = (
    rw made (put_inside n c xs x (F.sound h).0.above (F.sound h).0.below e),
    (
      (λ A B z fs S fit l a b.
          let q : x ≡ z = ex ∙ rw (← eo) at (first_free_lem S).0 in
          let E : ys ≡ put_bytes n c xs e z = rw (← q) made in
          (q, rw E (put_stands n c xs e z A B fs S fit l a b))),
      rw made (put_spares n c xs x e),
    ),
  )
    where
      made : ys ≡ put_bytes n c xs e x
      made = rw (e₄, e₃, e₂, e₁, status n i, (F.sound h).1, ek, eo)

  module _ (x : ℕ) {i : ℕ} (F : FindsSlot n c (length xs) x i) (h : i < c) where
    pub mark_made : (v : State) {o k l a : ℕ} {e : Event} {t₁ t₂ t₃ t₄ ys : List ℕ} → e ≡ event_at (slot_row n i) xs → o ≡ links_at n c → k ≡ nodes_of n c
        → t₁ ≡ put_state (slot_row n i + 24) v xs → t₂ ≡ store_at 2 (slot_row n i + 56 + 2 * 2) 2 t₁ → t₃ ≡ unlinked t₂ o k x
        → a ≡ prev_of t₃ o (n + e.target) → t₄ ≡ link_after t₃ o k a x → l ≡ log_at n c → ys ≡ filed t₄ n l k 0 e x
        → Inside n c xs ys × (Marks n c xs x v ys × Spares n c x xs ys)
    mark_made v {o} {k} {l} {a} {e} {t₁} {t₂} {t₃} {t₄} {ys} ee eo ek e₁ e₂ e₃ ea e₄ el e₅ = (
      rw made (mark_inside n c xs x (F.sound h).0.above (F.sound h).0.below e v),
      (
        (λ A B z free S fit first last.
            let q : e ≡ z = (ee ∙ rw (F.sound h).1) ∙ held_event n xs x (unrun z) (node_of A (cell x (unrun z)) B S).0 in
            let E : ys ≡ mark_bytes n c xs x z v = rw (← q) made in
            rw E (mark_stands n c xs x z v A B free S fit first last)),
        rw made (mark_spares n c xs x e v),
      ),
    )
      where
        made : ys ≡ mark_bytes n c xs x e v
        made = rw (e₅, e₄, ea, e₃, e₂, e₁, status n i, (F.sound h).1, el, ek, eo)

    pub unmark_made : {o k l : ℕ} {e : Event} {t₁ t₂ t₃ ys : List ℕ} → e ≡ event_at (slot_row n i) xs → o ≡ links_at n c → k ≡ nodes_of n c
        → t₁ ≡ store_at 2 (slot_row n i + 56 + 2 * 2) 1 xs → l ≡ log_at n c → t₂ ≡ unlinked t₁ l k x → t₃ ≡ unlinked t₂ o k x
        → ys ≡ link_after t₃ o k e.target x
        → Inside n c xs ys × (Unmarks n c xs x ys × (Spares n c x xs ys × ((event_at (slot_row n (slot_of n x)) xs).target < n → Sets n c x 1 xs ys)))
    unmark_made {o} {k} {l} {e} {t₁} {t₂} {t₃} {ys} ee eo ek e₁ el e₂ e₃ e₄ = (
      rw made (unmark_inside n c xs x (F.sound h).0.above (F.sound h).0.below e),
      (
        (λ A B z b free S first last.
            let q : e ≡ z = (ee ∙ rw (F.sound h).1) ∙ held_event n xs x (ran z b) (node_of A (cell x (ran z b)) B S).0 in
            let E : ys ≡ unmark_bytes n c xs x z = rw (← q) made in
            rw E (unmark_stands n c xs x z A B b free S first last)),
        (rw made (unmark_spares n c xs x e), (λ _. rw made (unmark_sets n c xs x e))),
      ),
    )
      where
        made : ys ≡ unmark_bytes n c xs x e
        made = rw (e₄, e₃, e₂, e₁, status n i, (F.sound h).1, el, ek, eo)

    pub free_made : {o k : ℕ} {t₁ t₂ ys : List ℕ} → o ≡ links_at n c → k ≡ nodes_of n c → t₁ ≡ store_at 2 (slot_row n i + 56 + 2 * 2) 0 xs
        → t₂ ≡ unlinked t₁ o k x → ys ≡ link_after t₂ o k (2 * n) x → Frees n c xs x ys
    unfolding freed
    free_made eo ek e₁ e₂ e₃ = inl ((F.sound h).0, rw (e₃, e₂, e₁, status n i, (F.sound h).1, ek, eo))

    pub release_made : {k l : ℕ} {t₁ ys : List ℕ} → l ≡ log_at n c → k ≡ nodes_of n c → t₁ ≡ unlinked xs l k x → Frees n c t₁ x ys
        → Inside n c xs ys × (Releases n c xs x ys × Spares n c x xs ys)
    release_made {t₁ = t₁} {ys} el ek e₁ G = go G
      where
        same : t₁ ≡ unlinked xs (log_at n c) (nodes_of n c) x
        same = rw (← el, ← ek) e₁

        size : length t₁ ≡ length xs
        size = rw same (unlink_frame xs (log_at n c) (nodes_of n c) x).size

        go : Frees n c t₁ x ys → Inside n c xs ys × (Releases n c xs x ys × Spares n c x xs ys)
        go (inl (_, e₂)) =
            rw (e₂, same) (
              released_inside n c xs x (F.sound h).0.above (F.sound h).0.below,
              ((λ A B e b free S. release_stands n c xs x A B e b free S), released_spares n c xs x),
            )
        go (inr (gone, _)) = absurd (gone (rw size (F.sound h).0))

  pub drop_made : (x : ℕ) {ys : List ℕ} → Frees n c xs x ys → Inside n c xs ys × (Drops n c xs x ys × (Spares n c x xs ys × Sets n c x 0 xs ys))
  drop_made x (inl (s, e)) =
      rw e (
        freed_inside n c xs x s.above s.below,
        ((λ A B e free S. drop_stands n c xs x A B e free S), (freed_spares n c xs x, freed_sets n c xs x)),
      )
  drop_made x (inr (gone, e)) = rw e (drop_none n c xs x gone)
