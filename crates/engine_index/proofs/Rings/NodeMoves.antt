-- A node leaves its ring or joins one: the rings stand for the cells without it and with it, and between the two it is in no ring.
use mathlib.Core.Path.{◌≡◌, refl, sym, ◌∙◌}
use mathlib.Core.List.{List, [], ◌∷◌, ◌++◌}
use Prim.Native.Nat.{ℕ, ◌+◌, ◌*◌, ◌<◌}
use native.Mathlib.Omega.{arith}
use Rattle.rings.specs.Table.{link_after, unlinked}
use Rattle.rings.specs.Ring.{last_of, in_rings, RingIn, Rings}
use Rattle.rings.proofs.Families.{rings_insert, rings_unlink, rings_free}
use Rattle.engine_index.specs.Represents.{Cell, ring_of, contents}
use Rattle.engine_index.proofs.Rings.Contents.{nodes_in, nodes_append, nodes_in_lem, contents_held, contents_free, contents_other, contents_others}

module _ {xs : List ℕ} {o k : ℕ} (n : ℕ) where
  -- ---- cells

  -- the ring of u among the cells
  pub ring_of_lem : (cells : List Cell) (free : List ℕ) (u : ℕ) → u < 2 * n → Rings xs o k (2 * n + 1) (contents n cells free)
      → RingIn xs o k u (nodes_in n u cells)
  ring_of_lem cells free u l F = rw (contents_held n cells free u (omega arith)) at (F.ring u (omega arith))

  module _ (A : List Cell) (y : Cell) (B : List Cell) (free : List ℕ) (l : ring_of n y.held < 2 * n)
      (F : Rings xs o k (2 * n + 1) (contents n (A ++ y ∷ B) free)) where
    -- the ring of a cell
    pub ring_at : RingIn xs o k (ring_of n y.held) (nodes_in n (ring_of n y.held) A ++ y.node ∷ nodes_in n (ring_of n y.held) B)
    ring_at = rw (nodes_in_lem n (ring_of n y.held) A y B refl) at (ring_of_lem (A ++ y ∷ B) free (ring_of n y.held) l F)

    pub take_out : Rings (unlinked xs o k y.node) o k (2 * n + 1) (contents n (A ++ B) free)
    take_out =
        rings_unlink F (contents n (A ++ B) free) (ring_of n y.held) (omega arith) (nodes_in n (ring_of n y.held) A)
        (nodes_in n (ring_of n y.held) B) y.node (λ u _ d. sym (contents_other n A y B free u d))
        (contents_held n (A ++ y ∷ B) free (ring_of n y.held) (omega arith) ∙ nodes_in_lem n (ring_of n y.held) A y B refl)
        (contents_held n (A ++ B) free (ring_of n y.held) (omega arith) ∙ nodes_append n (ring_of n y.held) A B)

    pub out_free : in_rings (2 * n + 1) (contents n (A ++ B) free) y.node ≡ 0
    out_free =
        rings_free F (contents n (A ++ B) free) (ring_of n y.held) (omega arith) (nodes_in n (ring_of n y.held) A)
        (nodes_in n (ring_of n y.held) B) y.node (λ u _ d. sym (contents_other n A y B free u d))
        (contents_held n (A ++ y ∷ B) free (ring_of n y.held) (omega arith) ∙ nodes_in_lem n (ring_of n y.held) A y B refl)
        (contents_held n (A ++ B) free (ring_of n y.held) (omega arith) ∙ nodes_append n (ring_of n y.held) A B)

  pub put_in : (A : List Cell) (y : Cell) (B : List Cell) (free : List ℕ) → ring_of n y.held < 2 * n
      → in_rings (2 * n + 1) (contents n (A ++ B) free) y.node ≡ 0 → y.node < k → Rings xs o k (2 * n + 1) (contents n (A ++ B) free)
      → Rings (link_after xs o k (last_of (ring_of n y.held) (nodes_in n (ring_of n y.held) A)) y.node) o k (2 * n + 1)
      (contents n (A ++ y ∷ B) free)
  put_in A y B free l out hx F =
      rings_insert F (contents n (A ++ y ∷ B) free) (ring_of n y.held) (omega arith) (nodes_in n (ring_of n y.held) A)
      (nodes_in n (ring_of n y.held) B) y.node (λ u _ d. contents_other n A y B free u d)
      (contents_held n (A ++ B) free (ring_of n y.held) (omega arith) ∙ nodes_append n (ring_of n y.held) A B)
      (contents_held n (A ++ y ∷ B) free (ring_of n y.held) (omega arith) ∙ nodes_in_lem n (ring_of n y.held) A y B refl)
      out
      hx

  -- ---- free nodes

  module _ (cells : List Cell) (x : ℕ) (free : List ℕ) (F : Rings xs o k (2 * n + 1) (contents n cells (x ∷ free))) where
    pub take_free : Rings (unlinked xs o k x) o k (2 * n + 1) (contents n cells free)
    take_free =
        rings_unlink F (contents n cells free) (2 * n) (omega arith) [] free x (λ u _ d. contents_others n cells free (x ∷ free) u d)
        (contents_free n cells (x ∷ free)) (contents_free n cells free)

    pub taken_free : in_rings (2 * n + 1) (contents n cells free) x ≡ 0
    taken_free =
        rings_free F (contents n cells free) (2 * n) (omega arith) [] free x (λ u _ d. contents_others n cells free (x ∷ free) u d)
        (contents_free n cells (x ∷ free)) (contents_free n cells free)

  pub put_free : (cells : List Cell) (x : ℕ) (free : List ℕ) → in_rings (2 * n + 1) (contents n cells free) x ≡ 0 → x < k
      → Rings xs o k (2 * n + 1) (contents n cells free) → Rings (link_after xs o k (2 * n) x) o k (2 * n + 1) (contents n cells (x ∷ free))
  put_free cells x free out hx F =
      rings_insert F (contents n cells (x ∷ free)) (2 * n) (omega arith) [] free x
      (λ u _ d. contents_others n cells (x ∷ free) free u d) (contents_free n cells free) (contents_free n cells (x ∷ free)) out hx
