-- Beside a node that is in no ring, the cells and the free nodes are others, so that their slots stay while its slot changes.
use mathlib.Core.Path.{◌≡◌, refl, sym, ap, ◌∙◌}
use mathlib.Core.Logic.{◌≢◌}
use mathlib.Core.Bool.{Bool, true, false, cond}
use mathlib.Core.List.{List, [], ◌∷◌, ◌++◌}
use Prim.Native.Nat.{ℕ, ◌+◌, ◌*◌, ◌≤◌, ◌<◌}
use native.Mathlib.Omega.{arith}
use borrow.Author.Tests.{eq-eqb}
use lib.Dec.{eqb}
use Rattle.line.specs.Order.{All}
use Rattle.rules.specs.Held.{Held, unrun, ran, event}
use Rattle.rings.specs.Ring.{occurs, in_rings, RingIn, Rings}
use Rattle.rings.proofs.Counts.{hit_same, hit_ne, unlike}
use Rattle.rings.proofs.Places.{below}
use Rattle.rings.proofs.Families.{free_each}
use Rattle.engine_index.specs.Layout.{nodes_of, slot_of}
use Rattle.engine_index.specs.Represents.{Cell, ring_of, nodes_by, contents, HeldAt, Stored, Free}
use Rattle.engine_index.proofs.Rings.Contents.{nodes_in, contents_held, contents_free}
use Rattle.engine_index.proofs.Rings.NodeMoves.{ring_of_lem}
use Rattle.engine_index.proofs.Slots.SlotBytes.{Kept, Else, held_kept, status_kept, else_kept}

-- ---- the ring of a held event

pub ring_below : (n : ℕ) (h : Held) → (event h).target < n → ring_of n h < 2 * n
ring_below n (unrun e) l = omega arith
ring_below n (ran e b) l = omega arith

-- ---- what holds of each node of the rings holds of each cell's

module _ (n : ℕ) (P : ℕ → Type 0) where
  each : (xs : List ℕ) (cells : List Cell) → Stored n xs cells → ((u i : ℕ) → u < 2 * n → 1 ≤ occurs i (nodes_in n u cells) → P i)
      → All (λ y. P y.node) cells
  each xs [] T f = tt
  each xs (y ∷ ys) T f = (
    f (ring_of n y.held) y.node (ring_below n y.held T.2)
        (rw (eq-eqb (ring_of n y.held) (ring_of n y.held) refl) (omega (arith, hit_same y.node))),
    each xs ys T.3 (λ u i l o. f u i l (more u i (eqb (ring_of n y.held) u) o)),
  )
    where
      more : (u i : ℕ) (v : Bool) → 1 ≤ occurs i (nodes_in n u ys) → 1 ≤ occurs i (cond v (y.node ∷ nodes_in n u ys) (nodes_in n u ys))
      more u i true h = omega arith
      more u i false h = h

-- ---- others than x

abbrev pub Other : ℕ → ℕ → ℕ → ℕ → Type 0
Other n c x i = (i < nodes_of n c) × (i ≢ x)

abbrev pub Others : ℕ → ℕ → ℕ → List Cell → Type 0
Others n c x cells = All (λ y. Other n c x y.node) cells

module _ {t : List ℕ} {o : ℕ} (n c x : ℕ) (cells : List Cell) (free : List ℕ) (F : Rings t o (nodes_of n c) (2 * n + 1) (contents n cells free))
    (out : in_rings (2 * n + 1) (contents n cells free) x ≡ 0) where
  pub others : (xs : List ℕ) → Stored n xs cells → Others n c x cells
  others xs T =
      each n (Other n c x) xs cells T
      (λ u i l h. (
        below (ring_of_lem n cells free u l F) i (omega arith),
        (λ e. unlike (nodes_in n u cells) x i
            (omega (arith, ap (occurs x) (contents_held n cells free u (omega arith)), free_each (2 * n + 1) (contents n cells free) x out u (omega arith))) h
            (sym e)),
      ))

  pub others_free : (i : ℕ) → 1 ≤ occurs i free → Other n c x i
  others_free i h =
      let R : RingIn t o (nodes_of n c) (2 * n) free = rw (contents_free n cells free) at (F.ring (2 * n) (omega arith)) in (
        below R i (omega arith),
        (λ e. unlike free x i
            (omega (arith, ap (occurs x) (contents_free n cells free), free_each (2 * n + 1) (contents n cells free) x out (2 * n) (omega arith))) h
            (sym e)),
      )

-- x is none of them
pub none_by : (n c x : ℕ) (t : Held → Bool) (cells : List Cell) → Others n c x cells → occurs x (nodes_by t cells) ≡ 0
none_by n c x t [] a = refl
none_by n c x t (y ∷ ys) a = go (t y.held) (none_by n c x t ys a.1)
  where
    go : (v : Bool) → occurs x (nodes_by t ys) ≡ 0 → occurs x (cond v (y.node ∷ nodes_by t ys) (nodes_by t ys)) ≡ 0
    go true e = omega (arith, hit_ne x y.node (λ h. a.0.1 (sym h)))
    go false e = e

-- their slots stay
module _ {xs ys : List ℕ} (n c x : ℕ) (l : 2 * n < x) (E : Else n c (slot_of n x) xs ys) where
  other_kept : (i : ℕ) → 2 * n < i → Other n c x i → Kept n (slot_of n i) xs ys
  other_kept i h a = else_kept n c (slot_of n x) (slot_of n i) (λ e. a.1 (omega arith)) (omega (arith, a.0)) E

  pub stored_else : (cells : List Cell) → Others n c x cells → Stored n xs cells → Stored n ys cells
  stored_else [] a T = tt
  stored_else (y ∷ cells) a T =
      (held_kept n y.node (other_kept y.node T.1 a.0) y.held T.0, T.1, T.2, stored_else cells a.1 T.3)

  pub free_else : (free : List ℕ) → ((i : ℕ) → 1 ≤ occurs i free → Other n c x i) → Free n xs free → Free n ys free
  free_else [] a T = tt
  free_else (i ∷ free) a T = (
    status_kept n i (other_kept i T.1 (a i (omega (arith, hit_same i)))) ∙ T.0,
    T.1,
    free_else free (λ j h. a j (omega arith)) T.2,
  )

-- ---- the parts of what is stored

module _ (n : ℕ) (xs : List ℕ) where
  pub stored_split : (A B : List Cell) → Stored n xs (A ++ B) → Stored n xs A × Stored n xs B
  stored_split [] B T = (tt, T)
  stored_split (y ∷ A) B T = let r = stored_split A B T.3 in ((T.0, T.1, T.2, r.0), r.1)

  pub stored_drop : (A : List Cell) (y : Cell) (B : List Cell) → Stored n xs (A ++ y ∷ B) → Stored n xs (A ++ B)
  stored_drop [] y B T = T.3
  stored_drop (z ∷ A) y B T = (T.0, T.1, T.2, stored_drop A y B T.3)

  pub stored_at : (A : List Cell) (y : Cell) (B : List Cell) → Stored n xs (A ++ y ∷ B)
      → HeldAt n xs y.node y.held × (2 * n < y.node) × ((event y.held).target < n)
  stored_at [] y B T = (T.0, T.1, T.2)
  stored_at (z ∷ A) y B T = stored_at A y B T.3

  pub stored_insert : (A : List Cell) (y : Cell) (B : List Cell) → HeldAt n xs y.node y.held → 2 * n < y.node → (event y.held).target < n
      → Stored n xs (A ++ B) → Stored n xs (A ++ y ∷ B)
  stored_insert [] y B H l k T = (H, l, k, T)
  stored_insert (z ∷ A) y B H l k T = (T.0, T.1, T.2, stored_insert A y B H l k T.3)
