-- The last run event of its station is unrun again: the index unmarks it, its station gets the state from before it, and the calendar is told.
use mathlib.Core.Path.{◌≡◌, refl, sym, ap, ◌∙◌, subst}
use mathlib.Core.List.{List, ◌∷◌, ◌++◌}
use Prim.Native.Nat.{ℕ, ◌+◌, ◌<◌}
use native.Mathlib.Omega.{arith}
use lib.ListN.{length}
use Rattle.line.specs.declared.Event.{Event}
use Rattle.line.specs.declared.State.{State}
use Rattle.line.specs.Station.{Plan, update}
use Rattle.rules.specs.Held.{unrun, ran, Queue, unmark}
use Rattle.rules.specs.Engine.{Setting}
use Rattle.rules.specs.Undo.{NoneLater}
use Rattle.rules.proofs.Replay.OtherStations.{unmark_elsewhere}
use Rattle.engine_events.specs.Shows.{Inside}
use Rattle.rings.specs.Table.{Frame}
use Rattle.engine_rows.specs.Layout.{station_row, slot_row}
use Rattle.engine_records.specs.Records.{put_state}
use Rattle.line.specs.Widths.{StateFits}
use Rattle.engine_index.specs.Layout.{index_bytes}
use Rattle.engine_index.specs.Promises.{Spares, Unmarks}
use Rattle.engine_index.specs.Represents.{Cell, cell}
use Rattle.engine_index.proofs.Changes.ToRules.{unmark_cells}
use Rattle.engine_rows.proofs.Rows.{state_of}
use Rattle.engine_index.proofs.CellFrames.{written_only}
use Rattle.engine_events.specs.Represents.{held_of, Has, Holds}
use Rattle.engine_moves.specs.Promises.{HoldsAmong, NoneWaits}
use Rattle.engine_moves.specs.Steps.{Tells}
use Rattle.engine_events.proofs.CalendarPart.{part_kept}
use Rattle.engine_moves.proofs.Cells.Split.{at_split, beside_in, run_beside, middle_in, from_swap, length_swap, held_map}
use Rattle.engine_moves.proofs.Cells.NoneBetween.{none_later, none_waits}
use Rattle.engine_moves.proofs.Cells.Members.{member_target, stands_inside}
use Rattle.engine_moves.proofs.Bytes.StaleStation.{untold}
use Rattle.engine_moves.proofs.Changes.IndexChanged.{Times, times_from, kids_spared, index_stores}
use Rattle.engine_moves.proofs.Bytes.States.{state_stores}

module _ (n c x : ℕ) (e : Event) (b : State) {xs ys zs : List ℕ} (F : Frame (slot_row n 0) (index_bytes n c) xs ys) (N : Spares n c x xs ys)
    (P : Unmarks n c xs x ys) (T : Tells n c e.target (put_state (station_row n e.target + 32) b ys) zs) where
  abbrev After : Queue → Queue
  After q = record { states = update q.states e.target b; held = unmark e q.held }

  unrun_at : (p : Plan) (setting : Setting) (now : ℕ) (q : Queue) (A B : List Cell) → Holds p setting n c now xs q (A ++ cell x (ran e b) ∷ B)
      → StateFits b
      → NoneLater e q.held → NoneWaits e q.held → HoldsAmong p setting n c now zs (After q) (A ++ cell x (ran e b) ∷ B)
  unrun_at p setting now q A B H fits later waits =
      let S = H.stores in
      let o : Cell = cell x (ran e b) in
      let u : Cell = cell x (unrun e) in
      let s = S.stands.sorted in
      let t = member_target S.stands in
      let D =
      P A B e b S.free S.stands (none_waits n x (ran e b) A B s t (subst (NoneWaits e) (sym S.held) waits))
      (none_later n x (ran e b) A B s t (subst (NoneLater e) (sym S.held) later)) in
      let held : held_of (A ++ u ∷ B) ≡ unmark e q.held =
      held_map (A ++ u ∷ B) ∙ unmark_cells x e b A B s ∙ ap (unmark e) (sym (held_map (A ++ o ∷ B)) ∙ S.held) in
      let times : Times now (held_of (A ++ u ∷ B)) =
      times_from (A ++ o ∷ B) (A ++ u ∷ B) (from_swap A x (ran e b) (unrun e) B refl) (subst (Times now) (sym S.held) S.times) in
      let kids =
      kids_spared p (A ++ u ∷ B) S.stands N S.kids (λ i f g m. beside_in A o B (run_beside A x e B i f g m))
      (λ i f g _ j h m _. from_swap A x (unrun e) (ran e b) B refl (cell j h) m) in
      let size : length (A ++ u ∷ B) + length S.free ≡ c = rw (length_swap A o u B) S.places in
      let G = index_stores (A ++ u ∷ B) S.free (unmark e q.held) S F D size held (subst (Times now) held times) kids in
      let l : e.target < n = t o (middle_in A o B) in
      let part_is = part_kept n c (written_only (state_of n e.target) b ys) (omega arith) ∙ part_kept n c F (omega arith) in
      let U =
      untold (unmark e q.held) H.calendar part_is (subst (Inside n) held (stands_inside D)) e.target (unmark_elsewhere e q.held) in
      record {
        after = A ++ u ∷ B;
        holds = T p setting now _ (A ++ u ∷ B) (state_stores e.target b l fits G) U;
        from = from_swap A x (ran e b) (unrun e) B refl;
      }

  -- the state from before it stands in bytes, so that it fits
  pub unruns : (p : Plan) (setting : Setting) (now : ℕ) (q : Queue) (cells : List Cell) → Holds p setting n c now xs q cells
      → Has (cell x (ran e b)) cells → StateFits b
      → NoneLater e q.held → NoneWaits e q.held → HoldsAmong p setting n c now zs (After q) cells
  unruns p setting now q cells H m fits later waits =
      at_split (λ l. Holds p setting n c now xs q l → HoldsAmong p setting n c now zs (After q) l) (cell x (ran e b)) cells m
      (λ A B K. unrun_at p setting now q A B K fits later waits) H
