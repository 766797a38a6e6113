-- What stands in each ring: a cell among the others adds its node to one ring, and the other rings do not see it.
use mathlib.Core.Path.{◌≡◌, refl, sym, ap, ◌∙◌}
use mathlib.Core.Logic.{◌≢◌}
use mathlib.Core.Bool.{Bool, true, false, cond}
use mathlib.Core.List.{List, [], ◌∷◌, ◌++◌}
use Prim.Native.Nat.{ℕ, ◌*◌}
use borrow.Author.Tests.{eq-eqb, ne_eqb}
use lib.Dec.{eqb}
use Rattle.rules.specs.Held.{Held}
use Rattle.engine_index.specs.Represents.{Cell, ring_of, nodes_by, contents, NoneIn}

-- ---- the nodes of the cells for which t holds

module _ (t : Held → Bool) where
  pub by_append : (A B : List Cell) → nodes_by t (A ++ B) ≡ nodes_by t A ++ nodes_by t B
  by_append [] B = refl
  by_append (y ∷ A) B = go (t y.held) (by_append A B)
    where
      go : (v : Bool) → nodes_by t (A ++ B) ≡ nodes_by t A ++ nodes_by t B
          → cond v (y.node ∷ nodes_by t (A ++ B)) (nodes_by t (A ++ B)) ≡ cond v (y.node ∷ nodes_by t A) (nodes_by t A) ++ nodes_by t B
      go true e = ap (λ (l : List ℕ). y.node ∷ l) e
      go false e = e

  pub by_in : (A : List Cell) (y : Cell) (B : List Cell) → t y.held ≡ true → nodes_by t (A ++ y ∷ B) ≡ nodes_by t A ++ y.node ∷ nodes_by t B
  by_in A y B e = by_append A (y ∷ B) ∙ rw e

  pub by_out : (A : List Cell) (y : Cell) (B : List Cell) → t y.held ≡ false → nodes_by t (A ++ y ∷ B) ≡ nodes_by t (A ++ B)
  by_out A y B e = by_append A (y ∷ B) ∙ rw e (sym (by_append A B))

-- ---- the rings of the stations

abbrev pub nodes_in : ℕ → ℕ → List Cell → List ℕ
nodes_in n u cells = nodes_by (λ h. eqb (ring_of n h) u) cells

module _ (n : ℕ) where
  pub nodes_append : (u : ℕ) (A B : List Cell) → nodes_in n u (A ++ B) ≡ nodes_in n u A ++ nodes_in n u B
  nodes_append u A B = by_append (λ h. eqb (ring_of n h) u) A B

  pub nodes_in_lem : (u : ℕ) (A : List Cell) (y : Cell) (B : List Cell) → ring_of n y.held ≡ u
      → nodes_in n u (A ++ y ∷ B) ≡ nodes_in n u A ++ y.node ∷ nodes_in n u B
  nodes_in_lem u A y B e = by_in (λ h. eqb (ring_of n h) u) A y B (eq-eqb (ring_of n y.held) u e)

  pub nodes_out : (u : ℕ) (A : List Cell) (y : Cell) (B : List Cell) → ring_of n y.held ≢ u
      → nodes_in n u (A ++ y ∷ B) ≡ nodes_in n u (A ++ B)
  nodes_out u A y B d = by_out (λ h. eqb (ring_of n h) u) A y B (ne_eqb (ring_of n y.held) u d)

  -- no cell is in ring u
  pub nodes_none : (u : ℕ) (A : List Cell) → NoneIn n u A → nodes_in n u A ≡ []
  nodes_none u [] h = refl
  nodes_none u (y ∷ A) h = rw (ne_eqb (ring_of n y.held) u h.0) (nodes_none u A h.1)

-- ---- all rings

module _ (n : ℕ) where
  pub contents_held : (cells : List Cell) (free : List ℕ) (u : ℕ) → u ≢ 2 * n → contents n cells free u ≡ nodes_in n u cells
  unfolding contents
  contents_held cells free u d = rw (ne_eqb u (2 * n) d)

  pub contents_free : (cells : List Cell) (free : List ℕ) → contents n cells free (2 * n) ≡ free
  unfolding contents
  contents_free cells free = rw (eq-eqb (2 * n) (2 * n) refl)

  -- a cell is in its ring alone
  pub contents_other : (A : List Cell) (y : Cell) (B : List Cell) (free : List ℕ) (u : ℕ) → u ≢ ring_of n y.held
      → contents n (A ++ y ∷ B) free u ≡ contents n (A ++ B) free u
  unfolding contents
  contents_other A y B free u d = rw (nodes_out n u A y B (λ e. d (sym e)))

  -- the free nodes are in theirs
  pub contents_others : (cells : List Cell) (free free' : List ℕ) (u : ℕ) → u ≢ 2 * n → contents n cells free u ≡ contents n cells free' u
  contents_others cells free free' u d = contents_held cells free u d ∙ sym (contents_held cells free' u d)
