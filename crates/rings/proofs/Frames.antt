-- Frames compose: a store changes its own bytes alone, and what a row of changes leaves is what each of them leaves.
use mathlib.Core.Path.{refl, ◌∙◌}
use mathlib.Core.Logic.{inl, inr}
use mathlib.Core.List.{List}
use Prim.Native.Nat.{ℕ, ◌+◌, ◌≤◌}
use native.Mathlib.Omega.{arith}
use Rattle.words.specs.Le.{store_at}
use Rattle.words.proofs.Laws.{length_store, load_other}
use Rattle.rings.specs.Table.{Outside, Frame}

pub store_frame : (n i v : ℕ) (t : List ℕ) → Frame i n t (store_at n i v t)
store_frame n i v t = record { size = length_store n i v t; loads = λ m j h. load_other m n i v t j h }

pub frame_same : (i k : ℕ) (t : List ℕ) → Frame i k t t
frame_same i k t = record { size = refl; loads = λ m j h. refl }

pub frame_on : {i k : ℕ} {t u v : List ℕ} → Frame i k t u → Frame i k u v → Frame i k t v
frame_on F G = record { size = G.size ∙ F.size; loads = λ m j h. G.loads m j h ∙ F.loads m j h }

-- the k bytes from i lie within the l bytes from j
pub frame_wider : {i k : ℕ} (j l : ℕ) {t u : List ℕ} → j ≤ i → i + k ≤ j + l → Frame i k t u → Frame j l t u
frame_wider {i} {k} j l a b F = record { size = F.size; loads = λ m p h. F.loads m p (out m p h) }
  where
    out : (m p : ℕ) → Outside j l p m → Outside i k p m
    out m p (inl h) = inl (omega arith)
    out m p (inr h) = inr (omega arith)
