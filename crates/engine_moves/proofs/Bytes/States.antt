-- A station's state is set: the bytes hold the queue with it.
use mathlib.Core.Path.{◌≡◌, refl, sym, ◌∙◌}
use mathlib.Core.Logic.{inl}
use mathlib.Core.List.{List}
use Prim.Native.Nat.{ℕ, ◌+◌, ◌<◌}
use native.Mathlib.Omega.{arith}
use Rattle.words.specs.Le.{load_at}
use Rattle.line.specs.declared.State.{State}
use Rattle.line.specs.Station.{Plan, update}
use Rattle.rules.specs.Held.{Queue}
use Rattle.line.proofs.Order.{Which, this, other, which}
use Rattle.rules.proofs.Update.{update_at, update_other}
use Rattle.engine_rows.specs.Layout.{station_row, slot_row}
use Rattle.engine_records.specs.Records.{state_at, put_state}
use Rattle.line.specs.Widths.{StateFits}
use Rattle.engine_records.proofs.RecordLaws.{length_state, state_back}
use Rattle.engine_records.proofs.Cells.{state, config, beside, read_beside}
use Rattle.engine_rows.proofs.Rows.{state_of}
use Rattle.engine_index.specs.Layout.{slot_of}
use Rattle.engine_index.specs.Represents.{Cell}
use Rattle.engine_index.proofs.CellFrames.{written_only}
use Rattle.engine_index.proofs.Slots.OtherBytes.{stands_elsewhere}
use Rattle.engine_events.specs.Represents.{Stores}
use Rattle.engine_moves.proofs.Cells.SendNodes.{sends_as}

module _ {p : Plan} {n c now : ℕ} {xs : List ℕ} {q : Queue} {cells : List Cell} (t : ℕ) (v : State) (l : t < n) (f : StateFits v)
    (S : Stores p n c now xs q cells) where
  abbrev set : List ℕ
  set = put_state (station_row n t + 32) v xs

  state_at_lem : (s : ℕ) → s < n → Which s t → state_at (station_row n s + 32) set ≡ update q.states t v s
  state_at_lem s b (this e _) = rw e (state_back (station_row n t + 32) v xs (omega (arith, S.long)) f ∙ sym (update_at q.states {s = t} {t = t} v refl))
  state_at_lem s b (other d _) =
      read_beside (state (station_row n t + 32)) (state (station_row n s + 32)) v xs
      (beside (state (station_row n t + 32)) (state (station_row n s + 32)) (λ h. omega arith))
      ∙ S.states s b ∙ sym (update_other q.states v d)

  pub state_stores : Stores p n c now set (record { states = update q.states t v; held = q.held }) cells
  state_stores = record {
    count = S.count;
    some = S.some;
    long = rw (length_state (station_row n t + 32) v xs) S.long;
    configs = λ s b.
        read_beside (state (station_row n t + 32)) (config (station_row n s)) v xs
        (beside (state (station_row n t + 32)) (config (station_row n s)) (λ h. omega arith))
        ∙ S.configs s b;
    states = λ s b. state_at_lem s b (which s t);
    free = S.free;
    stands = stands_elsewhere (written_only (state_of n t) v xs) (inl (omega arith)) S.stands;
    places = S.places;
    held = S.held;
    times = S.times;
    kids = λ x e b m. rw (sends_as n x xs set (load x 56) (load x 58)) (S.kids x e b m);
  }
    where
      load : (x k : ℕ) → load_at 2 (slot_row n (slot_of n x) + k) set ≡ load_at 2 (slot_row n (slot_of n x) + k) xs
      load x k = (written_only (state_of n t) v xs).loads 2 (slot_row n (slot_of n x) + k) (inl (omega arith))
