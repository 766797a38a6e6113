-- Bytes stand for the same cells after a change that the index does not look at: outside of it, or of a slot's number other than its status.
use mathlib.Core.Path.{◌≡◌, ◌∙◌}
use mathlib.Core.Logic.{◌≢◌, ◌⊎◌, inl, inr}
use mathlib.Core.List.{List, [], ◌∷◌}
use Prim.Native.Nat.{ℕ, ◌+◌, ◌*◌, ◌≤◌, ◌<◌}
use native.Mathlib.Decide.{ℕ_discrete, dec_lt}
use native.Mathlib.Nat.{add-zero}
use native.Mathlib.Omega.{arith}
use Rattle.words.specs.Le.{store_at}
use Rattle.line.specs.Order.{All}
use Rattle.rules.specs.Held.{Held, unrun, ran}
use Rattle.rings.specs.Table.{Outside, Frame}
use Rattle.rings.specs.Ring.{occurs, in_rings}
use Rattle.rings.proofs.Counts.{hit_same}
use Rattle.rings.proofs.Frames.{store_frame}
use Rattle.rings.proofs.Families.{rings_elsewhere, free_all}
use Rattle.engine_rows.specs.Layout.{slot_row}
use Rattle.entry.specs.Entry.{event_at}
use Rattle.engine_records.specs.Records.{state_at}
use Rattle.engine_records.proofs.Cells.{event, state}
use Rattle.engine_rows.proofs.Rows.{slots}
use Rattle.engine_index.specs.Layout.{links_at, log_at, nodes_of, index_bytes, slot_of}
use Rattle.engine_index.specs.Represents.{Cell, contents, status_at, HeldAt, Stored, Free, Stands}
use Rattle.engine_index.proofs.CellFrames.{row_kept}
use Rattle.engine_index.proofs.Slots.OtherSlots.{Other, Others, others, others_free}

-- ---- slots that hold the same

pub record Alike (n x : ℕ) (xs ys : List ℕ) : Type 0 where
  pub same_event : event_at (slot_row n (slot_of n x)) ys ≡ event_at (slot_row n (slot_of n x)) xs
  pub same_state : state_at (slot_row n (slot_of n x) + 24) ys ≡ state_at (slot_row n (slot_of n x) + 24) xs
  pub same_status : status_at n x ys ≡ status_at n x xs

-- the event and the state stand before the slot's numbers, which start at byte 56; the status is in bytes 60 and 61
alike : {a l : ℕ} {xs ys : List ℕ} (n x : ℕ) → Frame a l xs ys → Outside a l (slot_row n (slot_of n x)) 56 → Outside a l (slot_row n (slot_of n x) + 60) 2
    → Alike n x xs ys
alike n x F out end =
    let row = slot_row n (slot_of n x) in
    record {
      same_event = row_kept {c = event row} (record { from = omega arith; to = omega arith }) F out;
      same_state = row_kept {c = state (row + 24)} (record { from = omega arith; to = omega arith }) F out;
      same_status = F.loads 2 (row + 60) end;
    }

alike_held : {xs ys : List ℕ} (n x : ℕ) (h : Held) → Alike n x xs ys → HeldAt n xs x h → HeldAt n ys x h
alike_held n x (unrun e) L H = (L.same_event ∙ H.0, L.same_status ∙ H.1)
alike_held n x (ran e b) L H = (L.same_event ∙ H.0, L.same_status ∙ H.1, L.same_state ∙ H.2)

module _ (n c z : ℕ) (xs ys : List ℕ) (L : (i : ℕ) → 2 * n < i → i < nodes_of n c → Alike n i xs ys) where
  stored_alike : (cells : List Cell) → Others n c z cells → Stored n xs cells → Stored n ys cells
  stored_alike [] a T = tt
  stored_alike (y ∷ cells) a T =
      (alike_held n y.node y.held (L y.node T.1 a.0.0) T.0, T.1, T.2, stored_alike cells a.1 T.3)

  free_alike : (free : List ℕ) → ((i : ℕ) → 1 ≤ occurs i free → Other n c z i) → Free n xs free → Free n ys free
  free_alike [] a T = tt
  free_alike (i ∷ free) a T =
      ((L i T.1 (a i (omega (arith, hit_same i))).0).same_status ∙ T.0, T.1, free_alike free (λ j h. a j (omega arith)) T.2)

-- ---- the cells

module _ {n c : ℕ} {xs : List ℕ} {cells : List Cell} {free : List ℕ} (S : Stands n c xs cells free) where
  -- a number of no node is in no ring
  gone : in_rings (2 * n + 1) (contents n cells free) (nodes_of n c) ≡ 0
  gone = free_all (2 * n + 1) (contents n cells free) (nodes_of n c) (λ u h. (S.rings.ring u h).within (nodes_of n c) (omega arith))

  nodes_below : Others n c (nodes_of n c) cells
  nodes_below = others n c (nodes_of n c) cells free S.rings gone xs S.stored

  -- each cell has one of the c slots
  pub slots_below : All (λ y. slot_of n y.node < c) cells
  slots_below = go cells nodes_below S.stored
    where
      go : (ys : List Cell) → Others n c (nodes_of n c) ys → Stored n xs ys → All (λ y. slot_of n y.node < c) ys
      go [] a T = tt
      go (y ∷ ys) a T = (omega (arith, a.0.0, T.1), go ys a.1 T.3)

module _ {n c : ℕ} {xs ys : List ℕ} {cells : List Cell} {free : List ℕ} {a l : ℕ} (F : Frame a l xs ys) (S : Stands n c xs cells free)
    (links : Outside a l (links_at n c) (4 * nodes_of n c)) (log : Outside a l (log_at n c) (4 * nodes_of n c))
    (L : (i : ℕ) → 2 * n < i → i < nodes_of n c → Alike n i xs ys) where
  stands_alike : Stands n c ys cells free
  stands_alike =
      record {
        stations = S.stations;
        capacity = S.capacity;
        room = rw F.size S.room;
        rings = rings_elsewhere F links S.rings;
        log = rings_elsewhere F log S.log;
        stored = stored_alike n c (nodes_of n c) xs ys L cells (nodes_below S) S.stored;
        unused = free_alike n c (nodes_of n c) xs ys L free (others_free n c (nodes_of n c) cells free S.rings (gone S)) S.unused;
        sorted = S.sorted;
      }

-- a change outside the index
pub stands_elsewhere : {n c : ℕ} {xs ys : List ℕ} {cells : List Cell} {free : List ℕ} {a l : ℕ} → Frame a l xs ys
    → Outside a l (slot_row n 0) (index_bytes n c) → Stands n c xs cells free → Stands n c ys cells free
stands_elsewhere {n} {c} {xs} {ys} {a = a} {l = l} F (inl h) S =
    stands_alike F S (inl (omega arith)) (inl (omega arith)) (λ i p q. alike n i F (inl (omega arith)) (inl (omega arith)))
stands_elsewhere {n} {c} {xs} {ys} {a = a} {l = l} F (inr h) S =
    stands_alike F S (inr (omega arith)) (inr (omega arith)) (λ i p q. alike n i F (inr (omega arith)) (inr (omega arith)))

-- a slot's number, not its status
pub stands_number : {n c : ℕ} {xs : List ℕ} {cells : List Cell} {free : List ℕ} (i m v : ℕ) → i < c → m < 4 → m ≢ 2 → Stands n c xs cells free
    → Stands n c (store_at 2 (slot_row n i + 56 + 2 * m) v xs) cells free
stands_number {n} {c} {xs} i m v h k d S =
    stands_alike F S (inl (omega arith)) (inl (omega arith))
    (λ j p q. alike n j F (head (slot_of n j) (ℕ_discrete i (slot_of n j))) (tail (slot_of n j) (ℕ_discrete i (slot_of n j)) (split (dec_lt m 2))))
  where
    F : Frame (slot_row n i + 56 + 2 * m) 2 xs (store_at 2 (slot_row n i + 56 + 2 * m) v xs)
    F = store_frame 2 (slot_row n i + 56 + 2 * m) v xs

    away : (j : ℕ) (q w : ℕ) → q + w ≤ 64 → Outside (slot_row n i) 64 (slot_row n j) 64 → Outside (slot_row n i + 56 + 2 * m) 2 (slot_row n j + q) w
    away j q w b (inl o) = inl (omega arith)
    away j q w b (inr o) = inr (omega arith)

    head : (j : ℕ) → Dec (i ≡ j) → Outside (slot_row n i + 56 + 2 * m) 2 (slot_row n j) 56
    head j (yes e) = inr (omega arith)
    head j (no f) = rw add-zero at (away j 0 56 (omega arith) (slots n i j f))

    split : Dec (m < 2) → (m < 2) ⊎ (2 < m)
    split (yes e) = inl e
    split (no f) = inr (omega arith)

    tail : (j : ℕ) → Dec (i ≡ j) → (m < 2) ⊎ (2 < m) → Outside (slot_row n i + 56 + 2 * m) 2 (slot_row n j + 60) 2
    tail j (yes e) (inl b) = inl (omega arith)
    tail j (yes e) (inr b) = inr (omega arith)
    tail j (no f) s = away j 60 2 (omega arith) (slots n i j f)
