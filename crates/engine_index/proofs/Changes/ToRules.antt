-- The changes of the cells are the rules' changes of the held events.
use mathlib.Core.Path.{◌≡◌, refl}
use mathlib.Core.Logic.{◌≢◌}
use mathlib.Core.Bool.{false}
use mathlib.Core.List.{List, [], ◌∷◌, ◌++◌, map}
use Prim.Native.Nat.{ℕ}
use borrow.Author.Tests.{eq-eqb, ne_eqb}
use Rattle.line.specs.declared.Event.{Event}
use Rattle.line.specs.declared.State.{State}
use Rattle.line.specs.Event.{before}
use Rattle.line.specs.Order.{Lt}
use Rattle.line.proofs.Order.{asym}
use Rattle.rules.specs.Held.{Held, unrun, ran, event, unmark, delete, place, mark, least_unrun}
use Rattle.rules.specs.Held.Found.{none, some}
use Rattle.rules.proofs.Replay.Delete.{same_self, same_lt}
use Rattle.engine_index.specs.Represents.{Cell, cell, ring_of, AllBefore, AllAfter, Sorted, NoneIn}
use Rattle.engine_index.proofs.Rings.Order.{sorted_before}

-- the held events of the cells
abbrev pub held_of : List Cell → List Held
held_of cells = map (λ (y : Cell). y.held) cells

-- ---- the changes

module _ (x : ℕ) (e : Event) where
  pub place_cells : (A B : List Cell) → AllBefore A e → AllAfter e B → held_of (A ++ cell x (unrun e) ∷ B) ≡ place e (held_of (A ++ B))
  unfolding place
  place_cells [] [] a b = refl
  place_cells [] (y ∷ B) a b = let z : before (event y.held) e ≡ false = (asym (record { is = b.0 })).is in rw z
  place_cells (y ∷ A) B a b = rw (a.0, place_cells A B a.1 b)

  pub mark_cells : (n : ℕ) (v : State) (A B : List Cell) → NoneIn n e.target A
      → held_of (A ++ cell x (ran e v) ∷ B) ≡ mark e.target v (held_of (A ++ cell x (unrun e) ∷ B))
  unfolding mark
  mark_cells n v [] B z = rw (eq-eqb e.target e.target refl)
  mark_cells n v (y ∷ A) B z = go (mark_cells n v A B z.1) y.held z.0
    where
      go : held_of (A ++ cell x (ran e v) ∷ B) ≡ mark e.target v (held_of (A ++ cell x (unrun e) ∷ B)) → (h : Held) → ring_of n h ≢ e.target
          → h ∷ held_of (A ++ cell x (ran e v) ∷ B) ≡ mark e.target v (h ∷ held_of (A ++ cell x (unrun e) ∷ B))
      go i (ran w b) d = rw i
      go i (unrun w) d = rw (ne_eqb w.target e.target d, i)

  pub unmark_cells : (b : State) (A B : List Cell) → Sorted (A ++ cell x (ran e b) ∷ B)
      → held_of (A ++ cell x (unrun e) ∷ B) ≡ unmark e (held_of (A ++ cell x (ran e b) ∷ B))
  unfolding unmark
  unmark_cells b [] B s = rw (same_self e)
  unmark_cells b (y ∷ A) B s =
      let z : Lt (event y.held) e = record { is = (sorted_before (y ∷ A) (cell x (ran e b)) B s).0 } in
      rw (same_lt z, unmark_cells b A B s.1)

pub delete_cells : (A : List Cell) (y : Cell) (B : List Cell) → Sorted (A ++ y ∷ B) → held_of (A ++ B) ≡ delete (event y.held) (held_of (A ++ y ∷ B))
unfolding delete
delete_cells [] y B s = rw (same_self (event y.held))
delete_cells (z ∷ A) y B s =
    let q : Lt (event z.held) (event y.held) = record { is = (sorted_before (z ∷ A) y B s).0 } in
    rw (same_lt q, delete_cells A y B s.1)

-- ---- the least unrun event of a station

pub least_some : (n x : ℕ) (e : Event) (A B : List Cell) → NoneIn n e.target A → least_unrun e.target (held_of (A ++ cell x (unrun e) ∷ B)) ≡ some e
unfolding least_unrun
least_some n x e [] B z = rw (eq-eqb e.target e.target refl)
least_some n x e (y ∷ A) B z = go (least_some n x e A B z.1) y.held z.0
  where
    go : least_unrun e.target (held_of (A ++ cell x (unrun e) ∷ B)) ≡ some e → (h : Held) → ring_of n h ≢ e.target
        → least_unrun e.target (h ∷ held_of (A ++ cell x (unrun e) ∷ B)) ≡ some e
    go i (ran w b) d = i
    go i (unrun w) d = rw (ne_eqb w.target e.target d) i

pub least_none : (n s : ℕ) (cells : List Cell) → NoneIn n s cells → least_unrun s (held_of cells) ≡ none
unfolding least_unrun
least_none n s [] z = refl
least_none n s (y ∷ ys) z = go (least_none n s ys z.1) y.held z.0
  where
    go : least_unrun s (held_of ys) ≡ none → (h : Held) → ring_of n h ≢ s → least_unrun s (h ∷ held_of ys) ≡ none
    go i (ran w b) d = i
    go i (unrun w) d = rw (ne_eqb w.target s d) i
