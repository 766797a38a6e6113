-- On any bytes a change of the index leaves all numbers of the slots but the status of its node's slot, and that becomes what it stores.
use mathlib.Core.Path.{refl, ◌∙◌}
use mathlib.Core.Logic.{◌≢◌, inr}
use mathlib.Core.List.{List}
use Prim.Native.Nat.{ℕ, ◌+◌, ◌*◌, ◌≤◌, ◌<◌}
use native.Mathlib.Omega.{arith}
use Rattle.words.specs.Le.{store_at}
use Rattle.words.proofs.Laws.{Apart, load_stored}
use Rattle.line.specs.declared.Event.{Event}
use Rattle.line.specs.declared.State.{State}
use Rattle.rings.specs.Table.{link_after, unlinked, Frame}
use Rattle.rings.proofs.Frames.{store_frame, frame_wider}
use Rattle.rings.proofs.Confined.{insert_frame, unlink_frame}
use Rattle.engine_rows.specs.Layout.{slot_row}
use Rattle.entry.specs.Entry.{put_event}
use Rattle.engine_records.specs.Records.{put_state}
use Rattle.engine_records.proofs.Cells.{number, event, state, beside}
use Rattle.engine_index.specs.Layout.{links_at, log_at, nodes_of, slot_of}
use Rattle.engine_index.specs.Steps.{filed, freed}
use Rattle.engine_index.specs.Promises.{Spares, Sets}
use Rattle.engine_index.proofs.Places.Layout.{least, from_links}
use Rattle.engine_index.proofs.CellFrames.{written_only}
use Rattle.engine_index.proofs.Changes.Put.{put_bytes}
use Rattle.engine_index.proofs.Changes.Mark.{mark_bytes}
use Rattle.engine_index.proofs.Changes.Unmark.{unmark_bytes}

-- ---- where the numbers stand

module _ (n i j : ℕ) where
  -- after the first 56 bytes of a row, and before the next row
  head_number : (k : ℕ) → k < 4 → Apart (slot_row n i) 56 (slot_row n j + 56 + 2 * k) 2
  head_number k h = beside (number 56 (slot_row n i)) (number 2 (slot_row n j + 56 + 2 * k)) (λ l. omega arith)

  head_status : Apart (slot_row n i) 56 (slot_row n j + 60) 2
  head_status = beside (number 56 (slot_row n i)) (number 2 (slot_row n j + 60)) (λ l. omega arith)

  status_number : (k : ℕ) → k < 4 → k ≢ 2 → Apart (slot_row n i + 60) 2 (slot_row n j + 56 + 2 * k) 2
  status_number k h d = beside (number 2 (slot_row n i + 60)) (number 2 (slot_row n j + 56 + 2 * k)) (λ l. omega arith)

  status_status : j ≢ i → Apart (slot_row n i + 60) 2 (slot_row n j + 60) 2
  status_status d = beside (number 2 (slot_row n i + 60)) (number 2 (slot_row n j + 60)) (λ l. omega arith)

-- ---- each store

module _ (n c x : ℕ) where
  pub spares_same : (xs : List ℕ) → Spares n c x xs xs
  spares_same xs = record { numbers = λ i k _ _ _. refl; statuses = λ i _ _. refl }

  spares_links : {a l : ℕ} {xs ys : List ℕ} → links_at n c ≤ a → Frame a l xs ys → Spares n c x xs ys
  spares_links b F =
      record {
        numbers = λ i k h m _. F.loads 2 (slot_row n i + 56 + 2 * k) (inr (omega arith));
        statuses = λ i h _. F.loads 2 (slot_row n i + 60) (inr (omega arith));
      }

  -- the event or the state in a slot
  spares_head : {xs ys : List ℕ} (i : ℕ) → Frame (slot_row n i) 56 xs ys → Spares n c x xs ys
  spares_head i F =
      record {
        numbers = λ j k _ h _. F.loads 2 (slot_row n j + 56 + 2 * k) (head_number n i j k h);
        statuses = λ j _ _. F.loads 2 (slot_row n j + 60) (head_status n i j);
      }

  spares_status : (v : ℕ) (xs : List ℕ) → Spares n c x xs (store_at 2 (slot_row n (slot_of n x) + 60) v xs)
  spares_status v xs =
      record {
        numbers = λ j k _ h d. F.loads 2 (slot_row n j + 56 + 2 * k) (status_number n (slot_of n x) j k h d);
        statuses = λ j _ d. F.loads 2 (slot_row n j + 60) (status_status n (slot_of n x) j d);
      }
    where
      F : Frame (slot_row n (slot_of n x) + 60) 2 xs (store_at 2 (slot_row n (slot_of n x) + 60) v xs)
      F = store_frame 2 (slot_row n (slot_of n x) + 60) v xs

  sets_status : (v : ℕ) (xs : List ℕ) → v < 65536 → Sets n c x v xs (store_at 2 (slot_row n (slot_of n x) + 60) v xs)
  sets_status v xs h s =
      let room = s.room in
      let above = s.above in
      let below = s.below in
      load_stored 2 (slot_row n (slot_of n x) + 60) v xs (omega arith) (omega arith)

-- one store after the other
spares_on : {n c x : ℕ} {xs ys zs : List ℕ} → Spares n c x xs ys → Spares n c x ys zs → Spares n c x xs zs
spares_on S T =
    record {
      numbers = λ i k h m d. T.numbers i k h m d ∙ S.numbers i k h m d;
      statuses = λ i h d. T.statuses i h d ∙ S.statuses i h d;
    }

-- the links after the status
sets_on : (n c x v : ℕ) (xs : List ℕ) {a l : ℕ} {ys zs : List ℕ} → links_at n c ≤ a → Sets n c x v xs ys → Frame a l ys zs → Sets n c x v xs zs
sets_on n c x v xs b S F s =
    let above = s.above in
    let below = s.below in
    F.loads 2 (slot_row n (slot_of n x) + 60) (inr (omega arith)) ∙ S s

-- ---- each step of a change

module _ (n c : ℕ) where
  out_links : (x : ℕ) (xs : List ℕ) → Spares n c x xs (unlinked xs (links_at n c) (nodes_of n c) x)
  out_links x xs = spares_links n c x (least (links_at n c)) (unlink_frame xs (links_at n c) (nodes_of n c) x)

  in_links : (x : ℕ) (xs : List ℕ) (a : ℕ) → Spares n c x xs (link_after xs (links_at n c) (nodes_of n c) a x)
  in_links x xs a = spares_links n c x (least (links_at n c)) (insert_frame xs (links_at n c) (nodes_of n c) a x)

  out_log : (x : ℕ) (xs : List ℕ) → Spares n c x xs (unlinked xs (log_at n c) (nodes_of n c) x)
  out_log x xs = spares_links n c x (from_links n c) (unlink_frame xs (log_at n c) (nodes_of n c) x)

  in_log : (x : ℕ) (xs : List ℕ) (a : ℕ) → Spares n c x xs (link_after xs (log_at n c) (nodes_of n c) a x)
  in_log x xs a = spares_links n c x (from_links n c) (insert_frame xs (log_at n c) (nodes_of n c) a x)

  event_in : (x : ℕ) (xs : List ℕ) (e : Event) → Spares n c x xs (put_event (slot_row n (slot_of n x)) e xs)
  event_in x xs e =
      spares_head n c x (slot_of n x) (frame_wider (slot_row n (slot_of n x)) 56 (omega arith) (omega arith) (written_only (event (slot_row n (slot_of n x))) e xs))

  state_in : (x : ℕ) (xs : List ℕ) (v : State) → Spares n c x xs (put_state (slot_row n (slot_of n x) + 24) v xs)
  state_in x xs v =
      spares_head n c x (slot_of n x) (frame_wider (slot_row n (slot_of n x)) 56 (omega arith) (omega arith) (written_only (state (slot_row n (slot_of n x) + 24)) v xs))

-- ---- each change

module _ (n c : ℕ) (xs : List ℕ) (x : ℕ) where
  pub put_spares : (e : Event) → Spares n c x xs (put_bytes n c xs e x)
  unfolding filed
  put_spares e = spares_on (spares_on (out_links n c x xs) (event_in n c x _ e)) (spares_on (spares_status n c x 1 _) (in_links n c x _ _))

  pub mark_spares : (e : Event) (v : State) → Spares n c x xs (mark_bytes n c xs x e v)
  unfolding filed
  mark_spares e v =
      spares_on (spares_on (state_in n c x xs v) (spares_status n c x 2 _))
      (spares_on (out_links n c x _) (spares_on (in_links n c x _ _) (in_log n c x _ _)))

  pub unmark_spares : (e : Event) → Spares n c x xs (unmark_bytes n c xs x e)
  unmark_spares e = spares_on (spares_on (spares_status n c x 1 xs) (out_log n c x _)) (spares_on (out_links n c x _) (in_links n c x _ e.target))

  pub unmark_sets : (e : Event) → Sets n c x 1 xs (unmark_bytes n c xs x e)
  unmark_sets e =
      let o = links_at n c in
      let k = nodes_of n c in
      sets_on n c x 1 xs (least o)
      (sets_on n c x 1 xs (least o)
      (sets_on n c x 1 xs (from_links n c) (sets_status n c x 1 xs (omega arith)) (unlink_frame _ (log_at n c) k x)) (unlink_frame _ o k x))
      (insert_frame _ o k e.target x)

  pub freed_spares : Spares n c x xs (freed xs n (links_at n c) (nodes_of n c) x)
  unfolding freed
  freed_spares = spares_on (spares_status n c x 0 xs) (spares_on (out_links n c x _) (in_links n c x _ (2 * n)))

  pub freed_sets : Sets n c x 0 xs (freed xs n (links_at n c) (nodes_of n c) x)
  unfolding freed
  freed_sets =
      let o = links_at n c in
      let k = nodes_of n c in
      sets_on n c x 0 xs (least o) (sets_on n c x 0 xs (least o) (sets_status n c x 0 xs (omega arith)) (unlink_frame _ o k x)) (insert_frame _ o k (2 * n) x)

module _ (n c : ℕ) (xs : List ℕ) (x : ℕ) where
  pub released_spares : Spares n c x xs (freed (unlinked xs (log_at n c) (nodes_of n c) x) n (links_at n c) (nodes_of n c) x)
  released_spares = spares_on (out_log n c x xs) (freed_spares n c (unlinked xs (log_at n c) (nodes_of n c) x) x)
