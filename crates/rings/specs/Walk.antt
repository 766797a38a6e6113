-- Walks from node to node, with fuel.
use Rattle.std.specs.Prelude.{◌≡◌, Bool, false, cond, List, [], ◌∷◌, ℕ, zero, suc}

-- from i on by f, to the first node at which stop holds; after fuel steps the node reached
unfoldable pub steps : (ℕ → ℕ) → (ℕ → Bool) → ℕ → ℕ → ℕ
steps f stop zero i = i
steps f stop (suc fuel) i = cond (stop i) i (steps f stop fuel (f i))

-- stop holds at no node of a list
abbrev pub Passes : (ℕ → Bool) → List ℕ → Type 0
Passes stop [] = Unit
Passes stop (x ∷ xs) = (stop x ≡ false) × Passes stop xs
