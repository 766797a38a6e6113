-- The first unrun event of its station has run: its sends are noted, the index marks it, its station gets the state after it, and the calendar is told.
use mathlib.Core.Path.{◌≡◌, refl, sym, ap, ◌∙◌, subst}
use mathlib.Core.Logic.{◌⊎◌, inl, inr}
use mathlib.Core.List.{List, ◌∷◌, ◌++◌}
use Prim.Native.Nat.{ℕ, ◌+◌, ◌*◌, ◌<◌}
use native.Mathlib.Omega.{arith}
use lib.ListN.{length}
use Rattle.words.specs.Le.{store_at}
use Rattle.line.specs.declared.Event.{Event}
use Rattle.line.specs.declared.State.{State}
use Rattle.line.specs.Station.{Plan, update, run_event}
use Rattle.rules.specs.Held.{Held, unrun, ran, Queue, mark, some, least_unrun}
use Rattle.rules.specs.Engine.{Setting}
use Rattle.rules.specs.Undo.{NoneLater}
use Rattle.rules.proofs.Replay.OtherStations.{mark_elsewhere}
use Rattle.engine_events.specs.Shows.{Inside}
use Rattle.rings.specs.Table.{Frame}
use Rattle.rings.proofs.Frames.{store_frame}
use Rattle.engine_rows.specs.Layout.{station_row, slot_row}
use Rattle.engine_records.specs.Records.{put_state}
use Rattle.line.specs.Widths.{StateFits}
use Rattle.engine_index.specs.Layout.{index_bytes, slot_of}
use Rattle.engine_index.specs.Promises.{Spares, Marks}
use Rattle.engine_index.specs.Represents.{Cell, cell}
use Rattle.engine_index.proofs.Changes.ToRules.{mark_cells}
use Rattle.engine_rows.proofs.Rows.{state_of}
use Rattle.engine_index.proofs.CellFrames.{written_only}
use Rattle.engine_events.specs.Represents.{part, held_of, Has, nonzero, sends_at, Nodes, Kids, Stores, Calendared, Holds}
use Rattle.engine_moves.specs.Promises.{HoldsAmong}
use Rattle.engine_moves.specs.Steps.{Tells}
use Rattle.engine_events.proofs.CalendarPart.{part_kept}
use Rattle.engine_moves.proofs.Cells.Split.{at_split, beside_or, beside_in, middle_in, from_swap, length_swap, held_map}
use Rattle.engine_moves.proofs.Cells.SendNodes.{nodes_from, sends_spared}
use Rattle.engine_moves.proofs.Cells.NoneBetween.{none_later, none_first}
use Rattle.engine_moves.proofs.Cells.Members.{member_target, member_slot, stands_inside}
use Rattle.engine_moves.proofs.Bytes.StaleStation.{untold, still_told}
use Rattle.engine_moves.proofs.Changes.IndexChanged.{Times, times_from, index_stores}
use Rattle.engine_moves.proofs.Bytes.Sends.{number_stores, sends_noted}
use Rattle.engine_moves.proofs.Bytes.States.{state_stores}

-- ---- the index marks the event, whose sends are noted

module _ (n c x : ℕ) (e : Event) (v after : State) {xs ys zs : List ℕ} (F : Frame (slot_row n 0) (index_bytes n c) xs ys) (N : Spares n c x xs ys)
    (P : Marks n c xs x v ys) (T : Tells n c e.target (put_state (station_row n e.target + 32) after ys) zs) where
  abbrev After : Queue → Queue
  After q = record { states = update q.states e.target after; held = mark e.target v q.held }

  marked_at : (p : Plan) (setting : Setting) (now : ℕ) (q : Queue) (A B : List Cell) → Holds p setting n c now xs q (A ++ cell x (unrun e) ∷ B)
      → StateFits v → StateFits after
      → least_unrun e.target q.held ≡ some e → NoneLater e q.held
      → Nodes (A ++ cell x (unrun e) ∷ B) (sends_at n x xs) (run_event p v e).sends
      → HoldsAmong p setting n c now zs (After q) (A ++ cell x (unrun e) ∷ B)
  marked_at p setting now q A B H fits room first later sends =
      let S = H.stores in
      let o : Cell = cell x (unrun e) in
      let u : Cell = cell x (ran e v) in
      let s = S.stands.sorted in
      let t = member_target S.stands in
      let l : e.target < n = t o (middle_in A o B) in
      let none = none_first n x e A B s l (subst (λ h. least_unrun e.target h ≡ some e) (sym S.held) first) in
      let D = P A B e S.free S.stands fits none (none_later n x (unrun e) A B s t (subst (NoneLater e) (sym S.held) later)) in
      let held : held_of (A ++ u ∷ B) ≡ mark e.target v q.held =
      held_map (A ++ u ∷ B) ∙ mark_cells x e n v A B none ∙ ap (mark e.target v) (sym (held_map (A ++ o ∷ B)) ∙ S.held) in
      let times : Times now (held_of (A ++ u ∷ B)) =
      times_from (A ++ o ∷ B) (A ++ u ∷ B) (from_swap A x (unrun e) (ran e v) B refl) (subst (Times now) (sym S.held) S.times) in
      let size : length (A ++ u ∷ B) + length S.free ≡ c = rw (length_swap A o u B) S.places in
      let G = index_stores (A ++ u ∷ B) S.free (mark e.target v q.held) S F D size held (subst (Times now) held times) (kids S) in
      let part_is = part_kept n c (written_only (state_of n e.target) after ys) (omega arith) ∙ part_kept n c F (omega arith) in
      let U =
      untold (mark e.target v q.held) H.calendar part_is (subst (Inside n) held (stands_inside D)) e.target
      (mark_elsewhere e.target v q.held) in
      record {
        after = A ++ u ∷ B;
        holds = T p setting now _ (A ++ u ∷ B) (state_stores e.target after l room G) U;
        from = from_swap A x (unrun e) (ran e v) B refl;
      }
    where
      still : {ks : List ℕ} {es : List Event} → Nodes (A ++ cell x (unrun e) ∷ B) ks es → Nodes (A ++ cell x (ran e v) ∷ B) ks es
      still k = nodes_from (from_swap A x (ran e v) (unrun e) B refl) k

      kids : Stores p n c now xs q (A ++ cell x (unrun e) ∷ B) → Kids p n ys (A ++ cell x (ran e v) ∷ B)
      kids S i f g m = go (beside_or A (cell x (ran e v)) B m)
        where
          spared : (j : ℕ) (h : Held) → Has (cell j h) (A ++ cell x (unrun e) ∷ B) → sends_at n j ys ≡ sends_at n j xs
          spared j h k = sends_spared j N (member_slot S.stands (cell j h) k)

          go : (cell i (ran f g) ≡ cell x (ran e v)) ⊎ Has (cell i (ran f g)) (A ++ B)
              → Nodes (A ++ cell x (ran e v) ∷ B) (sends_at n i ys) (run_event p g f).sends
          go (inl z) =
              let a : i ≡ x = ap (λ (w : Cell). w.node) z in
              let h : ran f g ≡ ran e v = ap (λ (w : Cell). w.held) z in
              let b : f ≡ e = cc in
              let d : g ≡ v = cc in
              rw (a, b, d, spared x (unrun e) (middle_in A (cell x (unrun e)) B)) (still sends)
          go (inr k) =
              let k2 = beside_in A (cell x (unrun e)) B k in
              rw (spared i (ran f g) k2) (still (S.kids i f g k2))

-- ---- the sends are noted first

abbrev pub noted_in : ℕ → ℕ → ℕ → ℕ → List ℕ → List ℕ
noted_in n x first second xs = store_at 2 (slot_row n (slot_of n x) + 56 + 2 * 1) second (store_at 2 (slot_row n (slot_of n x) + 56 + 2 * 0) first xs)

module _ (n c x : ℕ) (e : Event) (v after : State) (first second : ℕ) (xs : List ℕ) {ys zs : List ℕ} where
  pub runs : Frame (slot_row n 0) (index_bytes n c) (noted_in n x first second xs) ys → Spares n c x (noted_in n x first second xs) ys
      → Marks n c (noted_in n x first second xs) x v ys
      → Tells n c e.target (put_state (station_row n e.target + 32) after ys) zs
      → first < 65536 → second < 65536
      → (p : Plan) (setting : Setting) (now : ℕ) (q : Queue) (cells : List Cell) → Holds p setting n c now xs q cells → Has (cell x (unrun e)) cells
      → StateFits v → StateFits after
      → least_unrun e.target q.held ≡ some e → NoneLater e q.held
      → Nodes cells (nonzero first ++ nonzero second) (run_event p v e).sends
      → HoldsAmong p setting n c now zs (record { states = update q.states e.target after; held = mark e.target v q.held }) cells
  runs F N P T h k p setting now q cells H m fits room least later sends =
      at_split
      (λ l. Holds p setting n c now (noted_in n x first second xs) q l → Nodes l (sends_at n x (noted_in n x first second xs)) (run_event p v e).sends
      → HoldsAmong p setting n c now zs (record { states = update q.states e.target after; held = mark e.target v q.held }) l)
      (cell x (unrun e)) cells m (λ A B K w. marked_at n c x e v after F N P T p setting now q A B K fits room least later w) J
      (rw (sends_noted n x first second xs (omega (arith, H.stores.stands.room, slot)) h k) sends)
    where
      first_stores : Stores p n c now (store_at 2 (slot_row n (slot_of n x) + 56 + 2 * 0) first xs) q cells
      first_stores = number_stores H.stores x 0 first e (omega arith) m

      slot : slot_of n x < c
      slot = member_slot H.stores.stands (cell x (unrun e)) m

      part_is : part n c (noted_in n x first second xs) ≡ part n c xs
      part_is =
          part_kept n c (store_frame 2 (slot_row n (slot_of n x) + 56 + 2 * 1) second (store_at 2 (slot_row n (slot_of n x) + 56 + 2 * 0) first xs)) (omega (arith, slot))
          ∙ part_kept n c (store_frame 2 (slot_row n (slot_of n x) + 56 + 2 * 0) first xs) (omega (arith, slot))

      told : Calendared setting n c now (noted_in n x first second xs) q.held
      told = still_told q.held H.calendar part_is H.calendar.shows.inside (λ t. refl)

      J : Holds p setting n c now (noted_in n x first second xs) q cells
      J = record { stores = number_stores first_stores x 1 second e (omega arith) m; calendar = told }
