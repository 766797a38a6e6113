-- An event is held: the index puts it between those before it and those after it, and the calendar is told.
use mathlib.Core.Path.{◌≡◌, refl, sym, ap, ◌∙◌, subst}
use mathlib.Core.List.Memᴰ
use mathlib.Core.List.{List, [], ◌∷◌, ◌++◌}
use Prim.Native.Nat.{ℕ, ◌+◌, ◌≤◌, ◌<◌}
use native.Mathlib.Omega.{arith}
use lib.ListN.{length}
use Rattle.refusal.specs.Tests.{horizon}
use Rattle.line.specs.declared.Event.{Event}
use Rattle.line.specs.Station.{Plan}
use Rattle.rules.specs.Held.{unrun, Queue, place}
use Rattle.rules.specs.Engine.{Setting}
use Rattle.rules.proofs.Replay.OtherStations.{place_elsewhere}
use Rattle.engine_events.specs.Shows.{Inside}
use Rattle.rings.specs.Table.{Frame}
use Rattle.engine_rows.specs.Layout.{slot_row}
use Rattle.line.specs.Widths.{EventFits}
use Rattle.engine_index.specs.Layout.{index_bytes}
use Rattle.engine_index.specs.Promises.{Spares, Puts}
use Rattle.engine_index.specs.Represents.{Cell, cell, Stands, AllBefore, AllAfter}
use Rattle.engine_index.proofs.Changes.ToRules.{place_cells}
use Rattle.engine_events.specs.Represents.{held_of, Holds}
use Rattle.engine_moves.specs.Promises.{HoldsAmong, HoldsEvent, New}
use Rattle.engine_moves.specs.Steps.{Tells}
use Rattle.engine_events.proofs.CalendarPart.{part_kept}
use Rattle.engine_moves.proofs.Cells.Split.{beside_in, run_beside, from_join, length_middle, held_map}
use Rattle.engine_moves.proofs.Cells.OrderSplit.{order_split}
use Rattle.engine_moves.proofs.Cells.Members.{stands_inside}
use Rattle.engine_moves.proofs.Bytes.StaleStation.{untold}
use Rattle.engine_moves.proofs.Changes.IndexChanged.{Times, times_from, kids_spared, index_stores}

module _ (n c : ℕ) (e : Event) (r : ℕ) {xs ys zs : List ℕ} (F : Frame (slot_row n 0) (index_bytes n c) xs ys) (P : Puts n c xs e r ys)
    (K : Spares n c r xs ys) (T : Tells n c e.target ys zs) where
  -- the cells are in two parts, and a slot is free
  takes_at : (p : Plan) (setting : Setting) (now : ℕ) (q : Queue) (A B : List Cell) (x : ℕ) (fs : List ℕ)
      → (H : Holds p setting n c now xs q (A ++ B)) → H.stores.free ≡ x ∷ fs
      → EventFits e → e.target < n → now ≤ e.time → e.time ≤ horizon → AllBefore A e → AllAfter e B
      → HoldsAmong p setting n c now zs (record { states = q.states; held = place e q.held }) (cell r (unrun e) ∷ (A ++ B))
  takes_at p setting now q A B x fs H free fits l low high a b =
      let S = H.stores in
      let y : Cell = cell r (unrun e) in
      let w = P A B x fs (subst (λ f. Stands n c xs (A ++ B) f) free S.stands) fits l a b in
      let D : Stands n c ys (A ++ y ∷ B) fs = rw w.0 w.1 in
      let held : held_of (A ++ y ∷ B) ≡ place e q.held =
      held_map (A ++ y ∷ B) ∙ place_cells r e A B a b ∙ ap (place e) (sym (held_map (A ++ B)) ∙ S.held) in
      let times : Times now (held_of (A ++ y ∷ B)) =
      times_from (y ∷ (A ++ B)) (A ++ y ∷ B) (from_join A y B) (joined (subst (Times now) (sym S.held) S.times)) in
      let kids = kids_spared p (A ++ y ∷ B) S.stands K S.kids (run_beside A r e B) (λ i f g _ j h m _. (h, beside_in A y B m, refl)) in
      let size : length (A ++ y ∷ B) + length fs ≡ c = omega (arith, length_middle A y B, S.places, ap length free) in
      let G = index_stores (A ++ y ∷ B) fs (place e q.held) S F D size held (subst (Times now) held times) kids in
      let U =
      untold (place e q.held) H.calendar (part_kept n c F (omega arith)) (subst (Inside n) held (stands_inside D)) e.target (place_elsewhere e q.held) in
      record { after = A ++ y ∷ B; holds = T p setting now _ (A ++ y ∷ B) G U; from = from_join A y B }
    where
      joined : Times now (held_of (A ++ B)) → Times now (unrun e ∷ held_of (A ++ B))
      joined t z (Memᴰ.head i) = rw i (low, high)
      joined t z (Memᴰ.tail m) = t z m

  takes_parted : (p : Plan) (setting : Setting) (now : ℕ) (q : Queue) (A B : List Cell) → Holds p setting n c now xs q (A ++ B) → length (A ++ B) < c
      → EventFits e → e.target < n → now ≤ e.time → e.time ≤ horizon → AllBefore A e → AllAfter e B
      → HoldsAmong p setting n c now zs (record { states = q.states; held = place e q.held }) (cell r (unrun e) ∷ (A ++ B))
  takes_parted p setting now q A B H room fits l low high a b = go H.stores.free refl
    where
      go : (f : List ℕ) → H.stores.free ≡ f
          → HoldsAmong p setting n c now zs (record { states = q.states; held = place e q.held }) (cell r (unrun e) ∷ (A ++ B))
      go [] i = absurd (omega (arith, H.stores.places, ap length i))
      go (x ∷ fs) i = takes_at p setting now q A B x fs H i fits l low high a b

  pub takes : HoldsEvent n c xs e r zs
  takes p setting now q cells H room fits l low high new =
      let R = order_split e cells H.stores.stands.sorted (subst (New e) (sym H.stores.held) new) in
      subst (λ w. Holds p setting n c now xs q w → length w < c → HoldsAmong p setting n c now zs (record { states = q.states; held = place e q.held }) (cell r (unrun e) ∷ w))
      (sym R.whole) (λ J m. takes_parted p setting now q R.front R.back J m fits l low high R.earlier R.later) H room
