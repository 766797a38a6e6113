-- The first and the last cell of a ring, or that there is none; and what a ring says of its cells.
use mathlib.Core.Path.{◌≡◌, refl}
use mathlib.Core.List.{List, [], ◌∷◌, ◌++◌}
use Prim.Native.Nat.{ℕ, ◌+◌, ◌<◌}
use native.Mathlib.Omega.{arith}
use native.Mathlib.Decide.{ℕ_discrete}
use Rattle.rules.specs.Held.{Held, unrun, ran, event}
use Rattle.engine_index.specs.Represents.{Cell, ring_of, NoneIn}

-- cells is A ++ y ∷ B where y is the first in ring u, or the last; or it has none
pub data First (n u : ℕ) : List Cell → Type 0 where
  none : {cells : List Cell} → NoneIn n u cells → First n u cells
  some : (A : List Cell) (y : Cell) (B : List Cell) → NoneIn n u A → ring_of n y.held ≡ u → First n u (A ++ y ∷ B)

pub data Last (n u : ℕ) : List Cell → Type 0 where
  last_none : {cells : List Cell} → NoneIn n u cells → Last n u cells
  last_some : (A : List Cell) (y : Cell) (B : List Cell) → NoneIn n u B → ring_of n y.held ≡ u → Last n u (A ++ y ∷ B)

module _ (n u : ℕ) where
  pub first : (cells : List Cell) → First n u cells
  first [] = none tt
  first (y ∷ ys) = go (ℕ_discrete (ring_of n y.held) u) (first ys)
    where
      go : {l : List Cell} → Dec (ring_of n y.held ≡ u) → First n u l → First n u (y ∷ l)
      go (yes e) f = some [] y _ tt e
      go (no d) (none {cells = l} z) = none {cells = y ∷ l} (d, z)
      go (no d) (some A w B z e) = some (y ∷ A) w B (d, z) e

  pub last : (cells : List Cell) → Last n u cells
  last [] = last_none tt
  last (y ∷ ys) = go (ℕ_discrete (ring_of n y.held) u) (last ys)
    where
      go : {l : List Cell} → Dec (ring_of n y.held ≡ u) → Last n u l → Last n u (y ∷ l)
      go d (last_some A w B z e) = last_some (y ∷ A) w B z e
      go (yes e) (last_none {cells = l} z) = last_some [] y l z e
      go (no d) (last_none {cells = l} z) = last_none {cells = y ∷ l} (d, z)

-- ---- an event in a station's waiting ring is unrun and the station's; in its run ring it has run

module _ (n s : ℕ) (l : s < n) where
  pub waits : (h : Held) → ring_of n h ≡ s → (h ≡ unrun (event h)) × ((event h).target ≡ s)
  waits (unrun e) q = (refl, q)
  waits (ran e b) q = absurd (omega arith)
