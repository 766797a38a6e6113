-- On any bytes a change of the index stays within the slots, the links and the log.
use mathlib.Core.List.{List}
use Prim.Native.Nat.{ℕ, ◌*◌, ◌<◌}
use native.Mathlib.Omega.{arith}
use Rattle.line.specs.declared.Event.{Event}
use Rattle.line.specs.declared.State.{State}
use Rattle.rings.specs.Table.{link_after, unlinked, Frame}
use Rattle.rings.proofs.Frames.{frame_on, frame_wider}
use Rattle.rings.proofs.Confined.{insert_frame, unlink_frame}
use Rattle.engine_rows.specs.Layout.{slot_row}
use Rattle.engine_index.specs.Layout.{links_at, log_at, nodes_of, index_bytes, slot_of}
use Rattle.engine_index.specs.Steps.{filed, freed}
use Rattle.engine_index.proofs.Slots.SlotBytes.{put_frame, save_frame, status_frame}
use Rattle.engine_index.proofs.Changes.Put.{put_bytes}
use Rattle.engine_index.proofs.Changes.Mark.{mark_bytes}
use Rattle.engine_index.proofs.Changes.Unmark.{unmark_bytes}

-- from xs to ys only bytes of the index changed
abbrev pub Inside : ℕ → ℕ → List ℕ → List ℕ → Type 0
Inside n c xs ys = Frame (slot_row n 0) (index_bytes n c) xs ys

-- ---- each part of it

module _ (n c : ℕ) where
  inside_links : {xs ys : List ℕ} → Frame (links_at n c) (4 * nodes_of n c) xs ys → Inside n c xs ys
  inside_links F = frame_wider (slot_row n 0) (index_bytes n c) (omega arith) (omega arith) F

  inside_log : {xs ys : List ℕ} → Frame (log_at n c) (4 * nodes_of n c) xs ys → Inside n c xs ys
  inside_log F = frame_wider (slot_row n 0) (index_bytes n c) (omega arith) (omega arith) F

  inside_slot : {xs ys : List ℕ} (x : ℕ) → 2 * n < x → x < nodes_of n c → Frame (slot_row n (slot_of n x)) 64 xs ys → Inside n c xs ys
  inside_slot x l h F = frame_wider (slot_row n 0) (index_bytes n c) (omega arith) (omega arith) F

  out_links : (xs : List ℕ) (x : ℕ) → Inside n c xs (unlinked xs (links_at n c) (nodes_of n c) x)
  out_links xs x = inside_links (unlink_frame xs (links_at n c) (nodes_of n c) x)

  in_links : (xs : List ℕ) (a x : ℕ) → Inside n c xs (link_after xs (links_at n c) (nodes_of n c) a x)
  in_links xs a x = inside_links (insert_frame xs (links_at n c) (nodes_of n c) a x)

  out_log : (xs : List ℕ) (x : ℕ) → Inside n c xs (unlinked xs (log_at n c) (nodes_of n c) x)
  out_log xs x = inside_log (unlink_frame xs (log_at n c) (nodes_of n c) x)

-- ---- each change

module _ (n c : ℕ) (xs : List ℕ) (x : ℕ) (l : 2 * n < x) (h : x < nodes_of n c) where
  pub put_inside : (e : Event) → Inside n c xs (put_bytes n c xs e x)
  unfolding filed
  put_inside e =
      frame_on (frame_on (out_links n c xs x) (inside_slot n c x l h (put_frame n (slot_of n x) e 1 (unlinked xs (links_at n c) (nodes_of n c) x))))
      (in_links n c _ _ x)

  pub mark_inside : (e : Event) (v : State) → Inside n c xs (mark_bytes n c xs x e v)
  unfolding filed
  mark_inside e v =
      frame_on (frame_on (inside_slot n c x l h (save_frame n (slot_of n x) v 2 xs)) (out_links n c _ x))
      (frame_on (in_links n c _ _ x) (inside_log n c (insert_frame _ (log_at n c) (nodes_of n c) _ x)))

  pub unmark_inside : (e : Event) → Inside n c xs (unmark_bytes n c xs x e)
  unmark_inside e =
      frame_on (frame_on (inside_slot n c x l h (status_frame n (slot_of n x) 1 xs)) (out_log n c _ x))
      (frame_on (out_links n c _ x) (in_links n c _ e.target x))

  pub freed_inside : Inside n c xs (freed xs n (links_at n c) (nodes_of n c) x)
  unfolding freed
  freed_inside = frame_on (inside_slot n c x l h (status_frame n (slot_of n x) 0 xs)) (frame_on (out_links n c _ x) (in_links n c _ (2 * n) x))

module _ (n c : ℕ) (xs : List ℕ) (x : ℕ) (l : 2 * n < x) (h : x < nodes_of n c) where
  pub released_inside : Inside n c xs (freed (unlinked xs (log_at n c) (nodes_of n c) x) n (links_at n c) (nodes_of n c) x)
  released_inside = frame_on (out_log n c xs x) (freed_inside n c (unlinked xs (log_at n c) (nodes_of n c) x) x l h)
