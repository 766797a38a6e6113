-- A station's first unrun node is that of its least unrun event; 0 where it has none.
use mathlib.Core.Path.{◌≡◌, sym, ap, ◌∙◌, subst}
use mathlib.Core.Logic.{◌⊎◌, inl, inr}
use mathlib.Core.List.{List, ◌∷◌, ◌++◌}
use Prim.Native.Nat.{ℕ, ◌<◌}
use Rattle.line.specs.declared.Event.{Event}
use Rattle.line.specs.Station.{Plan}
use Rattle.rules.specs.Held.{unrun, event, Queue, least_unrun}
use Rattle.rules.specs.Engine.{Setting}
use Rattle.rules.specs.Held.Found.{none as nothing, some as least-is}
use Rattle.engine_rows.specs.Layout.{slot_row}
use Rattle.entry.specs.Entry.{event_at}
use Rattle.engine_index.specs.Layout.{slot_of}
use Rattle.engine_index.specs.Represents.{Cell, cell, NoneIn}
use Rattle.engine_ends.specs.Ends.{first_unrun}
use Rattle.engine_ends.proofs.Ends.{first_unrun_none, first_unrun_is}
use Rattle.engine_index.proofs.Rings.RingSearches.{First, none, some, first, waits}
use Rattle.engine_index.proofs.Changes.ToRules.{least_some, least_none}
use Rattle.engine_events.specs.Represents.{Has, Holds}
use Rattle.engine_moves.proofs.Cells.Split.{middle_in, held_map}
use Rattle.engine_moves.proofs.Cells.Members.{member}

-- the least unrun event of station s, at node x of the cells
pub record Waits (n s x : ℕ) (xs : List ℕ) (q : Queue) (cells : List Cell) : Type 0 where
  pub waiting : Event
  pub least : least_unrun s q.held ≡ least-is waiting
  pub at : Has (cell x (unrun waiting)) cells
  pub target_is : waiting.target ≡ s
  pub stands : event_at (slot_row n (slot_of n x)) xs ≡ waiting

-- none, or one
abbrev pub Found : ℕ → ℕ → ℕ → List ℕ → Queue → List Cell → Type 0
Found n s x xs q cells = ((x ≡ 0) × (least_unrun s q.held ≡ nothing)) ⊎ Waits n s x xs q cells

module _ {p : Plan} {setting : Setting} {n c now : ℕ} {xs : List ℕ} {q : Queue} (s x : ℕ) (l : s < n) (e : x ≡ first_unrun xs n c s) where
  at_cell : (A : List Cell) (k : ℕ) (a : Event) (B : List Cell) → a.target ≡ s → NoneIn n s A
      → Holds p setting n c now xs q (A ++ cell k (unrun a) ∷ B) → Waits n s x xs q (A ++ cell k (unrun a) ∷ B)
  at_cell A k a B t z H =
      let S = H.stores.stands in
      let y : NoneIn n a.target A = subst (λ u. NoneIn n u A) (sym t) z in
      let i : x ≡ k = e ∙ first_unrun_is A (cell k (unrun a)) B S s l t z in
      let m : Has (cell x (unrun a)) (A ++ cell k (unrun a) ∷ B) =
      subst (λ j. Has (cell j (unrun a)) (A ++ cell k (unrun a) ∷ B)) (sym i) (middle_in A (cell k (unrun a)) B) in
      record {
        waiting = a;
        least =
            subst (λ u. least_unrun u q.held ≡ least-is a) t
            (subst (λ h. least_unrun a.target h ≡ least-is a) (sym (held_map (A ++ cell k (unrun a) ∷ B)) ∙ H.stores.held) (least_some n k a A B y));
        at = m;
        target_is = t;
        stands = (member S (cell x (unrun a)) m).0.0;
      }

  found_in : {cells : List Cell} → First n s cells → Holds p setting n c now xs q cells → Found n s x xs q cells
  found_in (none {cells = cells} z) H = inl (
    e ∙ first_unrun_none H.stores.stands s l z,
    subst (λ h. least_unrun s h ≡ nothing) (sym (held_map cells) ∙ H.stores.held) (least_none n s cells z),
  )
  found_in (some A y B z r) H =
      let w = waits n s l y.held r in
      let i : y ≡ cell y.node (unrun (event y.held)) = ap (cell y.node) w.0 in
      inr
      (subst (λ v. Waits n s x xs q (A ++ v ∷ B)) (sym i)
      (at_cell A y.node (event y.held) B w.1 z (subst (λ v. Holds p setting n c now xs q (A ++ v ∷ B)) i H)))

  pub waiting_found : {cells : List Cell} → Holds p setting n c now xs q cells → Found n s x xs q cells
  waiting_found {cells} H = found_in (first n s cells) H
