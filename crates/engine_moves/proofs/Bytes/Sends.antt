-- The sends of an unrun event are noted in its slot: what the bytes hold is as it was, and the slot names them.
use mathlib.Core.Path.{◌≡◌, ◌∙◌}
use mathlib.Core.Logic.{◌≢◌, inl, inr}
use mathlib.Core.List.{List, ◌++◌}
use Prim.Native.Nat.{ℕ, ◌+◌, ◌*◌, ◌≤◌, ◌<◌}
use native.Mathlib.Omega.{arith}
use lib.ListN.{length}
use Rattle.words.specs.Le.{load_at, store_at}
use Rattle.words.proofs.Laws.{length_store, load_other, load_stored}
use Rattle.line.specs.declared.Event.{Event}
use Rattle.line.specs.declared.State.{State}
use Rattle.line.specs.Station.{Plan}
use Rattle.rules.specs.Held.{unrun, ran, Queue}
use Rattle.rings.specs.Table.{Outside}
use Rattle.rings.proofs.Frames.{store_frame}
use Rattle.engine_rows.specs.Layout.{slot_row}
use Rattle.engine_rows.proofs.Rows.{config_in, state_in, slots}
use Rattle.engine_index.specs.Layout.{slot_of}
use Rattle.engine_index.specs.Represents.{Cell, cell}
use Rattle.engine_index.proofs.CellFrames.{row_kept}
use Rattle.engine_index.proofs.Slots.OtherBytes.{stands_number}
use Rattle.engine_events.specs.Represents.{Has, nonzero, sends_at, Stores}
use Rattle.engine_moves.proofs.Cells.SendNodes.{sends_as}
use Rattle.engine_moves.proofs.Cells.Members.{member, member_slot}

-- ---- one number

module _ {p : Plan} {n c now : ℕ} {xs : List ℕ} {q : Queue} {cells : List Cell} (S : Stores p n c now xs q cells) (x k v : ℕ) (e : Event) (l : k < 2)
    (m : Has (cell x (unrun e)) cells) where
  abbrev noted : List ℕ
  noted = store_at 2 (slot_row n (slot_of n x) + 56 + 2 * k) v xs

  -- a run event has another slot: its status is another
  apart : (y : ℕ) (f : Event) (b : State) → Has (cell y (ran f b)) cells → slot_of n x ≢ slot_of n y
  apart y f b h i =
      let a : load_at 2 (slot_row n (slot_of n x) + 60) xs ≡ 1 = (member S.stands (cell x (unrun e)) m).0.1 in
      let z : load_at 2 (slot_row n (slot_of n y) + 60) xs ≡ 2 = (member S.stands (cell y (ran f b)) h).0.1 in
      let w : load_at 2 (slot_row n (slot_of n y) + 60) xs ≡ 1 = rw i at a in
      omega arith

  away : (y j : ℕ) → j + 2 ≤ 64 → Outside (slot_row n (slot_of n x)) 64 (slot_row n (slot_of n y)) 64
      → load_at 2 (slot_row n (slot_of n y) + j) noted ≡ load_at 2 (slot_row n (slot_of n y) + j) xs
  away y j h (inl o) = load_other 2 2 (slot_row n (slot_of n x) + 56 + 2 * k) v xs (slot_row n (slot_of n y) + j) (inl (omega arith))
  away y j h (inr o) = load_other 2 2 (slot_row n (slot_of n x) + 56 + 2 * k) v xs (slot_row n (slot_of n y) + j) (inr (omega arith))

  pub number_stores : Stores p n c now noted q cells
  number_stores =
      let F = store_frame 2 (slot_row n (slot_of n x) + 56 + 2 * k) v xs in
      record {
        count = S.count;
        some = S.some;
        long = rw F.size S.long;
        configs = λ s b. row_kept (config_in n s) F (inr (omega arith)) ∙ S.configs s b;
        states = λ s b. row_kept (state_in n s) F (inr (omega arith)) ∙ S.states s b;
        free = S.free;
        stands = stands_number (slot_of n x) k v (member_slot S.stands (cell x (unrun e)) m) (omega arith) (omega arith) S.stands;
        places = S.places;
        held = S.held;
        times = S.times;
        kids = λ y f b h.
            let o = slots n (slot_of n x) (slot_of n y) (apart y f b h) in
            rw (sends_as n y xs noted (away y 56 (omega arith) o) (away y 58 (omega arith) o)) (S.kids y f b h);
      }

-- ---- both

pub sends_noted : (n x first second : ℕ) (xs : List ℕ) → slot_row n (slot_of n x) + 64 ≤ length xs → first < 65536 → second < 65536
    → sends_at n x (store_at 2 (slot_row n (slot_of n x) + 56 + 2 * 1) second (store_at 2 (slot_row n (slot_of n x) + 56 + 2 * 0) first xs))
    ≡ nonzero first ++ nonzero second
unfolding sends_at
sends_noted n x first second xs room h k =
    let r = slot_row n (slot_of n x) in
    let ys : List ℕ = store_at 2 (r + 56 + 2 * 0) first xs in
    let size : length ys ≡ length xs = length_store 2 (r + 56 + 2 * 0) first xs in
    let a : load_at 2 (r + 56) (store_at 2 (r + 56 + 2 * 1) second ys) ≡ first =
    load_other 2 2 (r + 56 + 2 * 1) second ys (r + 56) (inr (omega arith)) ∙ at ys r 56 (omega arith) (load_stored 2 (r + 56 + 2 * 0) first xs (omega arith) h) in
    let b : load_at 2 (r + 58) (store_at 2 (r + 56 + 2 * 1) second ys) ≡ second =
    at (store_at 2 (r + 56 + 2 * 1) second ys) r 58 (omega arith) (load_stored 2 (r + 56 + 2 * 1) second ys (omega arith) k) in
    rw (a, b)
  where
    at : (zs : List ℕ) {v i : ℕ} (r j : ℕ) → i ≡ r + j → load_at 2 i zs ≡ v → load_at 2 (r + j) zs ≡ v
    at zs r j e g = rw e at g
