-- An event leaves: an unrun one that no run event has sent, and the calendar is told; or the first of all, a run one, of which no other is a send.
use mathlib.Core.Path.{◌≡◌, refl, sym, ap, ◌∙◌, subst}
use mathlib.Core.Logic.{◌⊎◌, inl, inr}
use mathlib.Core.Bool.{false, true≢false}
use mathlib.Core.List.{List, [], ◌∷◌, ◌++◌, Memᴰ}
use Prim.Native.Nat.{ℕ, suc, ◌+◌, ◌<◌}
use native.Mathlib.Omega.{arith}
use lib.ListN.{length}
use Rattle.line.specs.declared.Event.{Event}
use Rattle.line.specs.declared.State.{State}
use Rattle.line.specs.Station.{Plan, run_event}
use Rattle.line.specs.Order.{Lt}
use Rattle.line.proofs.Order.{asym, clash}
use Rattle.rules.specs.Held.{Held, unrun, ran, event, In, Queue, same, delete, registered}
use Rattle.rules.specs.Engine.{Setting}
use Rattle.line.proofs.Members.{all_in}
use Rattle.rules.proofs.Replay.Delete.{same_self}
use Rattle.rules.proofs.Replay.Replay.{sends_later}
use Rattle.rules.proofs.Replay.LeastUnrun.{least_ran}
use Rattle.rules.proofs.Replay.Registered.{registered_as}
use Rattle.rules.proofs.Replay.OtherStations.{delete_elsewhere}
use Rattle.engine_events.specs.Shows.{Inside}
use Rattle.rings.specs.Table.{Frame}
use Rattle.engine_rows.specs.Layout.{slot_row}
use Rattle.engine_index.specs.Layout.{index_bytes}
use Rattle.engine_index.specs.Promises.{Spares, Drops, Releases as IndexReleases}
use Rattle.engine_index.specs.Represents.{Cell, cell, Stands}
use Rattle.engine_index.proofs.Changes.ToRules.{delete_cells}
use Rattle.engine_events.specs.Represents.{held_of, Has, Stores, Holds}
use Rattle.engine_moves.specs.Promises.{HoldsAmong, ReleasesEvent, Unsent}
use Rattle.engine_moves.specs.Steps.{Tells}
use Rattle.engine_events.proofs.CalendarPart.{part_kept}
use Rattle.engine_moves.proofs.Cells.Split.{at_split, beside_or, beside_in, from_leave, length_middle, held_map, held_in, in_held}
use Rattle.engine_moves.proofs.Cells.SendNodes.{Still}
use Rattle.engine_moves.proofs.Cells.NoneBetween.{all_after}
use Rattle.engine_moves.proofs.Cells.Members.{member, stands_inside}
use Rattle.engine_moves.proofs.Bytes.StaleStation.{untold, still_told}
use Rattle.engine_moves.proofs.Changes.IndexChanged.{Times, times_from, kids_spared, index_stores}

module _ (n c x : ℕ) {xs ys : List ℕ} (F : Frame (slot_row n 0) (index_bytes n c) xs ys) (N : Spares n c x xs ys) where
  -- the bytes without a cell whose event no run event has sent
  gone_stores : (p : Plan) (now : ℕ) (q : Queue) (A B : List Cell) (y : Cell) (free : List ℕ) (held : List Held) (S : Stores p n c now xs q (A ++ y ∷ B))
      → length free ≡ suc (length S.free) → Stands n c ys (A ++ B) free → held_of (A ++ B) ≡ held
      → ((f : Event) (g : State) → In (ran f g) (held_of (A ++ B)) → (z : Event) → Memᴰ z (run_event p g f).sends → z ≡ event y.held → ⊥)
      → Stores p n c now ys (record { states = q.states; held = held }) (A ++ B)
  gone_stores p now q A B y free held S one D e away =
      let times : Times now (held_of (A ++ B)) =
      times_from (A ++ y ∷ B) (A ++ B) (from_leave A y B) (subst (Times now) (sym S.held) S.times) in
      let kids = kids_spared p (A ++ B) S.stands N S.kids (λ i f g m. beside_in A y B m) still in
      let size : length (A ++ B) + length free ≡ c = omega (arith, length_middle A y B, S.places, one) in
      index_stores (A ++ B) free held S F D size e (subst (Times now) e times) kids
    where
      still : (i : ℕ) (f : Event) (g : State) → Has (cell i (ran f g)) (A ++ B) → (j : ℕ) (h : Held) → Has (cell j h) (A ++ y ∷ B)
          → Memᴰ (event h) (run_event p g f).sends → Still (A ++ B) j h
      still i f g m j h k s = go (beside_or A y B k)
        where
          go : (cell j h ≡ y) ⊎ Has (cell j h) (A ++ B) → Still (A ++ B) j h
          go (inl z) = absurd (away f g (held_in (A ++ B) (cell i (ran f g)) m) (event h) s (ap (λ (w : Cell). event w.held) z))
          go (inr w) = (h, w, refl)

  pub leaves : (e : Event) {zs : List ℕ} → Drops n c xs x ys → Tells n c e.target ys zs
      → (p : Plan) (setting : Setting) (now : ℕ) (q : Queue) (cells : List Cell) → Holds p setting n c now xs q cells → Has (cell x (unrun e)) cells
      → Unsent p e q.held
      → HoldsAmong p setting n c now zs (record { states = q.states; held = delete e q.held }) cells
  leaves e {zs} P T p setting now q cells H m w =
      at_split (λ l. Holds p setting n c now xs q l → HoldsAmong p setting n c now zs (record { states = q.states; held = delete e q.held }) l) (cell x (unrun e)) cells m at H
    where
      y : Cell
      y = cell x (unrun e)

      at : (A B : List Cell) → Holds p setting n c now xs q (A ++ y ∷ B)
          → HoldsAmong p setting n c now zs (record { states = q.states; held = delete e q.held }) (A ++ y ∷ B)
      at A B K =
          let S = K.stores in
          let D = P A B e S.free S.stands in
          let held : held_of (A ++ B) ≡ delete e q.held =
          held_map (A ++ B) ∙ delete_cells A y B S.stands.sorted ∙ ap (delete e) (sym (held_map (A ++ y ∷ B)) ∙ S.held) in
          let G = gone_stores p now q A B y (x ∷ S.free) (delete e q.held) S refl D held away in
          let U =
          untold (delete e q.held) K.calendar (part_kept n c F (omega arith)) (subst (Inside n) held (stands_inside D)) e.target
          (delete_elsewhere e q.held) in
          record { after = A ++ B; holds = T p setting now _ (A ++ B) G U; from = from_leave A y B }
        where
          away : (f : Event) (g : State) → In (ran f g) (held_of (A ++ B)) → (z : Event) → Memᴰ z (run_event p g f).sends → z ≡ e → ⊥
          away f g i z s k =
              let j = in_held (A ++ B) (ran f g) i in
              let r : same z e ≡ false =
              w f g (subst (In (ran f g)) K.stores.held (held_in (A ++ y ∷ B) (cell j.0 (ran f g)) (beside_in A y B j.1))) z s in
              let t : same e e ≡ false = rw k at r in
              true≢false (sym (same_self e) ∙ t)

  pub releases : IndexReleases n c xs x ys → ReleasesEvent n c xs x ys
  releases P p setting now q cells e b I H =
      let S = H.stores in
      let y : Cell = cell x (ran e b) in
      let D = P [] cells e b S.free S.stands in
      record {
        stores = gone_stores p now q [] cells y (x ∷ S.free) (held_of cells) S refl D refl away;
        calendar = still_told (held_of cells) H.calendar (part_kept n c F (omega arith)) (stands_inside D) same_registered;
      }
    where
      same_registered : (t : ℕ) → registered (held_of cells) t ≡ registered q.held t
      same_registered t = registered_as t (held_of cells) q.held (rw (sym H.stores.held) (sym (least_ran t e b (held_of cells))))

      away : (f : Event) (g : State) → In (ran f g) (held_of cells) → (z : Event) → Memᴰ z (run_event p g f).sends → z ≡ e → ⊥
      away f g i z s k =
          let j = in_held cells (ran f g) i in
          let m = member H.stores.stands (cell j.0 (ran f g)) (Memᴰ.tail j.1) in
          let l : f.target < p.count = omega (arith, m.2, H.stores.count) in
          let a : Lt f z = all_in (Lt f) s (sends_later p I g f l) in
          let b : Lt e f = record { is = all_after e H.stores.stands.sorted.0 j.1 } in
          clash (rw k at a) (asym b)
