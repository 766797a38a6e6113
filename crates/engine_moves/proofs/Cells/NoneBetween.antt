-- That none of a station's events is unrun before a cell, or run after it, by what the rules say of the held events.
use mathlib.Core.Path.{◌≡◌, refl, sym, ◌∙◌}
use mathlib.Core.Logic.{◌≢◌}
use mathlib.Core.Bool.{true, true≢false}
use mathlib.Core.List.Memᴰ
use mathlib.Core.List.{List, [], ◌∷◌, ◌++◌}
use Prim.Native.Nat.{ℕ, ◌+◌, ◌<◌}
use native.Mathlib.Omega.{arith}
use Rattle.line.specs.declared.Event.{Event}
use Rattle.line.specs.Event.{before}
use Rattle.line.proofs.Order.{irr, Which, this, other, which}
use Rattle.rules.specs.Held.{Held, unrun, ran, event, least_unrun}
use Rattle.rules.specs.Held.Found.{some}
use Rattle.rules.specs.Undo.{NoneLater}
use Rattle.rules.proofs.Replay.LeastUnrun.{least_this, least_other, least_ran}
use Rattle.engine_index.specs.Represents.{Cell, cell, ring_of, AllBefore, AllAfter, Sorted, NoneIn}
use Rattle.engine_index.proofs.Rings.Order.{sorted_before, sorted_after}
use Rattle.engine_events.specs.Represents.{held_of, Has}
use Rattle.engine_moves.specs.Promises.{NoneWaits}
use Rattle.engine_moves.proofs.Cells.Split.{held_in}

-- ---- member by member

none_in : (n u : ℕ) (cells : List Cell) → ((y : Cell) → Has y cells → ring_of n y.held ≢ u) → NoneIn n u cells
none_in n u [] f = tt
none_in n u (y ∷ cells) f = (f y (Memᴰ.head refl), none_in n u cells (λ z m. f z (Memᴰ.tail m)))

all_before : (e : Event) {y : Cell} {cells : List Cell} → AllBefore cells e → Has y cells → before (event y.held) e ≡ true
all_before e a (Memᴰ.head q) = rw q a.0
all_before e a (Memᴰ.tail m) = all_before e a.1 m

pub all_after : (e : Event) {y : Cell} {cells : List Cell} → AllAfter e cells → Has y cells → before e (event y.held) ≡ true
all_after e a (Memᴰ.head q) = rw q a.0
all_after e a (Memᴰ.tail m) = all_after e a.1 m

-- ---- beside the cell of e

module _ (n x : ℕ) (k : Held) (A B : List Cell) (s : Sorted (A ++ cell x k ∷ B))
    (T : (y : Cell) → Has y (A ++ cell x k ∷ B) → (event y.held).target < n) where
  -- none is run after it
  pub none_later : NoneLater (event k) (held_of (A ++ cell x k ∷ B)) → NoneIn n (n + (event k).target) B
  none_later w = none_in n (n + (event k).target) B (λ y m. go y.node y.held m)
    where
      go : (i : ℕ) (h : Held) → Has (cell i h) B → ring_of n h ≢ n + (event k).target
      go i (unrun z) m q =
          let l : z.target < n = T (cell i (unrun z)) (Memᴰ.append_right A (Memᴰ.tail m)) in
          omega arith
      go i (ran z b) m q =
          let t : z.target ≡ (event k).target = omega arith in
          let f = w z b (held_in (A ++ cell x k ∷ B) (cell i (ran z b)) (Memᴰ.append_right A (Memᴰ.tail m))) t in
          let g : before (event k) z ≡ true = all_after (event k) (sorted_after A (cell x k) B s) m in
          true≢false (sym g ∙ f)

  -- none is unrun before it
  pub none_waits : NoneWaits (event k) (held_of (A ++ cell x k ∷ B)) → NoneIn n (event k).target A
  none_waits w = none_in n (event k).target A (λ y m. go y.node y.held m)
    where
      go : (i : ℕ) (h : Held) → Has (cell i h) A → ring_of n h ≢ (event k).target
      go i (ran z b) m q =
          let l : (event k).target < n = T (cell x k) (Memᴰ.append_right A (Memᴰ.head refl)) in
          omega arith
      go i (unrun z) m q =
          let f = w z (held_in (A ++ cell x k ∷ B) (cell i (unrun z)) (Memᴰ.append_left (cell x k ∷ B) m)) q in
          let g : before z (event k) ≡ true = all_before (event k) (sorted_before A (cell x k) B s) m in
          true≢false (sym g ∙ f)

-- ---- the least unrun event

none_least : (n t : ℕ) (e : Event) (A B : List Cell) → t < n → AllBefore A e → least_unrun t (held_of (A ++ B)) ≡ some e → NoneIn n t A
none_least n t e [] B l a q = tt
none_least n t e (y ∷ A) B l a q = go y.held a.0 q (λ r. none_least n t e A B l a.1 r)
  where
    H : List Held
    H = held_of (A ++ B)

    go : (h : Held) → before (event h) e ≡ true → least_unrun t (h ∷ H) ≡ some e → (least_unrun t H ≡ some e → NoneIn n t A)
        → (ring_of n h ≢ t) × NoneIn n t A
    go (ran z b) f r i = ((λ q. omega arith), i (sym (least_ran t z b H) ∙ r))
    go (unrun z) f r i = on (which z.target t)
      where
        on : Which z.target t → (z.target ≢ t) × NoneIn n t A
        on (this p _) =
            let w : some z ≡ some e = sym (least_this t z H p) ∙ r in
            let v : z ≡ e = cc in
            let g : before e e ≡ true = rw v at f in
            absurd (true≢false (sym g ∙ (irr e).is))
        on (other p _) = (p, i (sym (least_other t z H p) ∙ r))

pub none_first : (n x : ℕ) (e : Event) (A B : List Cell) → Sorted (A ++ cell x (unrun e) ∷ B) → e.target < n
    → least_unrun e.target (held_of (A ++ cell x (unrun e) ∷ B)) ≡ some e → NoneIn n e.target A
none_first n x e A B s l q = none_least n e.target e A (cell x (unrun e) ∷ B) l (sorted_before A (cell x (unrun e)) B s) q
