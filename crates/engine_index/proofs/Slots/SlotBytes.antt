-- What a slot holds stays while its bytes do, and stores to a slot, or to the links, change no other slot.
use mathlib.Core.Path.{◌≡◌, ◌∙◌}
use mathlib.Core.Logic.{◌≢◌, inl, inr}
use mathlib.Core.List.{List}
use Prim.Native.Nat.{ℕ, ◌+◌, ◌≤◌, ◌<◌}
use native.Mathlib.Omega.{arith}
use lib.ListN.{length}
use Rattle.words.specs.Le.{load_at, store_at}
use Rattle.words.proofs.Laws.{load_stored}
use Rattle.line.specs.declared.Event.{Event}
use Rattle.line.specs.declared.State.{State}
use Rattle.rules.specs.Held as rules
use Rattle.rules.specs.Held.{Held, unrun, ran}
use Rattle.rings.specs.Table.{Outside, Frame}
use Rattle.rings.proofs.Frames.{store_frame, frame_on, frame_wider}
use Rattle.engine_rows.specs.Layout.{slot_row}
use Rattle.entry.specs.Entry.{event_at, put_event}
use Rattle.engine_records.specs.Records.{state_at, put_state}
use Rattle.line.specs.Widths.{EventFits, StateFits}
use Rattle.entry.proofs.EntryLaws.{length_event, event_back}
use Rattle.engine_records.proofs.RecordLaws.{length_state, state_back}
use Rattle.engine_records.proofs.Cells.{number, event, state, read_beside, read_same}
use Rattle.engine_rows.proofs.Rows.{slots}
use Rattle.engine_index.specs.Layout.{slot_of, links_at}
use Rattle.engine_index.specs.Represents.{status_at, HeldAt}
use Rattle.engine_index.proofs.CellFrames.{written_only}

-- ---- frames

-- the stores to slot i, each in the order of the code
module _ (n i : ℕ) where
  pub status_frame : (v : ℕ) (xs : List ℕ) → Frame (slot_row n i) 64 xs (store_at 2 (slot_row n i + 60) v xs)
  status_frame v xs = frame_wider (slot_row n i) 64 (omega arith) (omega arith) (store_frame 2 (slot_row n i + 60) v xs)

  pub put_frame : (e : Event) (v : ℕ) (xs : List ℕ) → Frame (slot_row n i) 64 xs (store_at 2 (slot_row n i + 60) v (put_event (slot_row n i) e xs))
  put_frame e v xs =
      frame_on (frame_wider (slot_row n i) 64 (omega arith) (omega arith) (written_only (event (slot_row n i)) e xs)) (status_frame v (put_event (slot_row n i) e xs))

  pub save_frame : (s : State) (v : ℕ) (xs : List ℕ) → Frame (slot_row n i) 64 xs (store_at 2 (slot_row n i + 60) v (put_state (slot_row n i + 24) s xs))
  save_frame s v xs =
      frame_on (frame_wider (slot_row n i) 64 (omega arith) (omega arith) (written_only (state (slot_row n i + 24)) s xs))
      (status_frame v (put_state (slot_row n i + 24) s xs))

-- ---- a slot that is as it was

pub record Kept (n i : ℕ) (xs ys : List ℕ) : Type 0 where
  pub loads : (m j : ℕ) → slot_row n i ≤ j → j + m ≤ slot_row n i + 64 → load_at m j ys ≡ load_at m j xs

module _ {xs ys : List ℕ} (n x : ℕ) (K : Kept n (slot_of n x) xs ys) where
  pub event_kept : event_at (slot_row n (slot_of n x)) ys ≡ event_at (slot_row n (slot_of n x)) xs
  event_kept = read_same (event (slot_row n (slot_of n x))) xs ys (λ m j h k. K.loads m j (omega arith) (omega arith))

  pub state_kept : state_at (slot_row n (slot_of n x) + 24) ys ≡ state_at (slot_row n (slot_of n x) + 24) xs
  state_kept = read_same (state (slot_row n (slot_of n x) + 24)) xs ys (λ m j h k. K.loads m j (omega arith) (omega arith))

  pub status_kept : status_at n x ys ≡ status_at n x xs
  status_kept = K.loads 2 (slot_row n (slot_of n x) + 60) (omega arith) (omega arith)

  pub held_kept : (h : Held) → HeldAt n xs x h → HeldAt n ys x h
  held_kept (unrun e) H = (event_kept ∙ H.0, status_kept ∙ H.1)
  held_kept (ran e b) H = (event_kept ∙ H.0, status_kept ∙ H.1, state_kept ∙ H.2)

pub held_event : (n : ℕ) (xs : List ℕ) (x : ℕ) (h : Held) → HeldAt n xs x h → event_at (slot_row n (slot_of n x)) xs ≡ rules.event h
held_event n xs x (unrun e) H = H.0
held_event n xs x (ran e b) H = H.0

-- ---- only slot i and the links change

pub record Else (n c i : ℕ) (xs ys : List ℕ) : Type 0 where
  pub size : length ys ≡ length xs
  pub loads : (m j : ℕ) → Outside (slot_row n i) 64 j m → j + m ≤ links_at n c → load_at m j ys ≡ load_at m j xs

pub else_on : {n c i : ℕ} {xs ys zs : List ℕ} → Else n c i xs ys → Else n c i ys zs → Else n c i xs zs
else_on E G = record { size = G.size ∙ E.size; loads = λ m j h l. G.loads m j h l ∙ E.loads m j h l }

pub else_links : (n c i : ℕ) {a l : ℕ} {xs ys : List ℕ} → links_at n c ≤ a → Frame a l xs ys → Else n c i xs ys
else_links n c i h F = record { size = F.size; loads = λ m j _ l. F.loads m j (inr (omega arith)) }

pub else_slot : (n c i : ℕ) {a l : ℕ} {xs ys : List ℕ} → slot_row n i ≤ a → a + l ≤ slot_row n i + 64 → Frame a l xs ys → Else n c i xs ys
else_slot n c i {a} {l} h k F = record { size = F.size; loads = λ m j o _. F.loads m j (part m j o) }
  where
    part : (m j : ℕ) → Outside (slot_row n i) 64 j m → Outside a l j m
    part m j (inl p) = inl (omega arith)
    part m j (inr p) = inr (omega arith)

-- another slot stays
pub else_kept : (n c i j : ℕ) {xs ys : List ℕ} → i ≢ j → j < c → Else n c i xs ys → Kept n j xs ys
else_kept n c i j d l E = record { loads = λ m p a b. E.loads m p (part m p (slots n i j d) a b) (omega arith) }
  where
    part : (m p : ℕ) → Outside (slot_row n i) 64 (slot_row n j) 64 → slot_row n j ≤ p → p + m ≤ slot_row n j + 64 → Outside (slot_row n i) 64 p m
    part m p (inl h) a b = inl (omega arith)
    part m p (inr h) a b = inr (omega arith)

-- all slots stay where the links change
pub links_kept : (n c j : ℕ) {a l : ℕ} {xs ys : List ℕ} → j < c → links_at n c ≤ a → Frame a l xs ys → Kept n j xs ys
links_kept n c j h k F = record { loads = λ m p a b. F.loads m p (inr (omega arith)) }

-- ---- what a slot holds after its stores

module _ (n x : ℕ) where
  abbrev row_of : ℕ
  row_of = slot_row n (slot_of n x)

  -- the status alone
  pub status_stored : (v : ℕ) (xs : List ℕ) → row_of + 64 ≤ length xs → v < 65536 → status_at n x (store_at 2 (row_of + 60) v xs) ≡ v
  status_stored v xs room h = load_stored 2 (row_of + 60) v xs (omega arith) (omega arith)

  event_under : (v : ℕ) (xs : List ℕ) → event_at row_of (store_at 2 (row_of + 60) v xs) ≡ event_at row_of xs
  event_under v xs = read_beside (number 2 (row_of + 60)) (event row_of) v xs (inr (omega arith))

  pub unrun_stored : (e : Event) (xs : List ℕ) → row_of + 64 ≤ length xs → event_at row_of xs ≡ e → HeldAt n (store_at 2 (row_of + 60) 1 xs) x (unrun e)
  unrun_stored e xs room h = (event_under 1 xs ∙ h, status_stored 1 xs room (omega arith))

  -- the event, and then the status
  pub put_stored : (e : Event) (xs : List ℕ) → row_of + 64 ≤ length xs → EventFits e → HeldAt n (store_at 2 (row_of + 60) 1 (put_event row_of e xs)) x (unrun e)
  put_stored e xs room f = unrun_stored e (put_event row_of e xs) (rw length_event room) (event_back row_of e xs (omega arith) f)

  -- the state, and then the status
  pub ran_stored : (e : Event) (v : State) (xs : List ℕ) → row_of + 64 ≤ length xs → StateFits v → event_at row_of xs ≡ e
      → HeldAt n (store_at 2 (row_of + 60) 2 (put_state (row_of + 24) v xs)) x (ran e v)
  ran_stored e v xs room f h = (
    event_under 2 (put_state (row_of + 24) v xs) ∙ read_beside (state (row_of + 24)) (event row_of) v xs (inr (omega arith)) ∙ h,
    status_stored 2 (put_state (row_of + 24) v xs) (rw length_state room) (omega arith),
    read_beside (number 2 (row_of + 60)) (state (row_of + 24)) 2 (put_state (row_of + 24) v xs) (inr (omega arith))
        ∙ state_back (row_of + 24) v xs (omega arith) f,
  )
