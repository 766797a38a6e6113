-- An event has run by the code of `run`, from what its calls promise; where it does nothing, the node is no event's.
use mathlib.Core.Path.{◌≡◌, ap, ◌∙◌, subst}
use mathlib.Core.List.{List, ◌++◌}
use Prim.Native.Nat.{ℕ, ◌+◌, ◌*◌, ◌<◌}
use native.Mathlib.Omega.{arith}
use lib.ListN.{length, get_or}
use Rattle.words.specs.Le.{store_at}
use Rattle.words.proofs.Laws.{length_store}
use Rattle.line.specs.declared.Event.{Event}
use Rattle.line.specs.declared.State.{State}
use Rattle.line.specs.Station.{Plan, update, run_event}
use Rattle.rules.specs.Held.{unrun, Queue, some, least_unrun, mark}
use Rattle.rules.specs.Engine.{Setting}
use Rattle.rules.specs.Undo.{NoneLater}
use Rattle.rings.specs.Table.{Frame}
use Rattle.rings.proofs.Frames.{store_frame}
use Rattle.engine_rows.specs.Layout.{station_row, slot_row}
use Rattle.entry.specs.Entry.{event_at}
use Rattle.engine_records.specs.Records.{state_at, put_state}
use Rattle.line.specs.Widths.{StateFits}
use Rattle.engine_records.proofs.RecordLaws.{length_state}
use Rattle.engine_records.proofs.Fits.{state_fits}
use Rattle.engine_index.specs.Layout.{slot_of}
use Rattle.engine_index.specs.Promises.{Spares, Marks}
use Rattle.engine_index.specs.Represents.{Cell, cell}
use Rattle.engine_rows.proofs.Rows.{state_of}
use Rattle.engine_index.proofs.CellFrames.{OnlyAt, written_only}
use Rattle.engine_events.specs.Represents.{Has, nonzero, Nodes}
use Rattle.engine_events.specs.Promises.{AfterHeader}
use Rattle.engine_moves.specs.Promises.{HoldsAmong, RunsEvent}
use Rattle.engine_moves.specs.Steps.{Tells}
use Rattle.engine_events.proofs.AfterHeader.{after_header, after_header_same, after_header_on}
use Rattle.engine_moves.proofs.Changes.Run.{noted_in, runs}
use Rattle.engine_moves.proofs.FromCalls.CallsOfChanges.{Told, Indexed}
use Rattle.engine_moves.proofs.FromCalls.NoneHeld.{Nowhere, event_is}

module _ (n c x : ℕ) (after : State) (first second : ℕ) where
  pub run_size : (i t : ℕ) (xs : List ℕ) {us bs ys ds : List ℕ} → us ≡ store_at 2 (slot_row n i + 56 + 2 * 0) first xs
      → bs ≡ store_at 2 (slot_row n i + 56 + 2 * 1) second us
      → Indexed n c bs ys → ds ≡ put_state (station_row n t + 32) after ys → length ds ≡ length xs
  run_size i t xs {us} {bs} {ys} ea eb F ed =
      ap length ed ∙ length_state (station_row n t + 32) after ys ∙ F.size ∙ ap length eb ∙ length_store 2 (slot_row n i + 56 + 2 * 1) second us
      ∙ ap length ea ∙ length_store 2 (slot_row n i + 56 + 2 * 0) first xs

  pub run_made : (e : Event) (v : State) {i : ℕ} {xs us bs ys ds zs : List ℕ} → first < 65536 → second < 65536
      → i ≡ slot_of n x → e ≡ event_at (slot_row n i) xs → e.target < n → v ≡ state_at (station_row n e.target + 32) xs
      → ((j : ℕ) → get_or xs j 0 < 256)
      → us ≡ store_at 2 (slot_row n i + 56 + 2 * 0) first xs → bs ≡ store_at 2 (slot_row n i + 56 + 2 * 1) second us
      → Indexed n c bs ys × (Marks n c bs x v ys × Spares n c x bs ys)
      → ds ≡ put_state (station_row n e.target + 32) after ys → Told n c e.target ds zs
      → AfterHeader xs zs × RunsEvent n c xs x after first second zs
  run_made e v {i} {xs} {us} {bs} {ys} {ds} {zs} small small2 ei ee l ev bytes ea eb I ed T = (
    after_header_on (after_header (omega arith) sent)
        (after_header_on (after_header (omega arith) sent2) (after_header_on (after_header (omega arith) I.0) (after_header_on (after_header (omega arith) set) (after_header (omega arith) T.0)))),
    ran_on,
  )
    where
      sent : Frame (slot_row n i + 56 + 2 * 0) 2 xs us
      sent = rw ea (store_frame 2 (slot_row n i + 56 + 2 * 0) first xs)

      sent2 : Frame (slot_row n i + 56 + 2 * 1) 2 us bs
      sent2 = rw eb (store_frame 2 (slot_row n i + 56 + 2 * 1) second us)

      set : OnlyAt (state_of n e.target) ys ds
      set = rw ed (written_only (state_of n e.target) after ys)

      noted : bs ≡ noted_in n x first second xs
      noted = eb ∙ rw (ea, ei)

      event_there : e ≡ event_at (slot_row n (slot_of n x)) xs
      event_there = rw ei at ee

      fits : StateFits v
      fits = rw ev (state_fits (station_row n e.target + 32) xs bytes)

      told : Tells n c e.target (put_state (station_row n e.target + 32) after ys) zs
      told = rw ed at T.1

      On : Plan → Setting → ℕ → Queue → List Cell → Event → State → Type 0
      On p setting now q cells f a =
          Has (cell x (unrun f)) cells → least_unrun f.target q.held ≡ some f → NoneLater f q.held
          → Nodes cells (nonzero first ++ nonzero second) (run_event p a f).sends
          → HoldsAmong p setting n c now zs (record { states = update q.states f.target after; held = mark f.target a q.held }) cells

      ran_on : RunsEvent n c xs x after first second zs
      ran_on p setting now q cells f H m least later _ room nodes =
          let y : e ≡ f = event_there ∙ event_is n c x xs (unrun f) H.stores m in
          let z : v ≡ q.states e.target = ev ∙ H.stores.states e.target l in
          subst (λ g. On p setting now q cells g (q.states g.target)) y
          (subst (λ a. On p setting now q cells e a) z
          (λ h i j k. runs n c x e v after first second xs (rw noted at I.0) (rw noted at I.1.1) (rw noted at I.1.0) told small small2 p setting now q cells H h
          fits room i j k))
          m least later nodes

  pub run_none : (xs : List ℕ) → Nowhere n c xs x → AfterHeader xs xs × RunsEvent n c xs x after first second xs
  run_none xs R = (after_header_same xs, (λ p setting now q cells e H m _ _ _ _ _. absurd (R p now q cells (unrun e) H.stores m)))
