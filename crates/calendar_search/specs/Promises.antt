-- What each search promises, over the arity a.
use Rattle.std.specs.Prelude.{◌≡◌, Option, Some, None, ◌⊎◌, List, ℕ, ◌+◌, ◌-◌, ◌*◌, ◌/◌, ◌%◌, ◌≤◌, ◌<◌}
use Rattle.calendar_cells.specs.Table.{bucket_head, Waits}

-- how many blocks leaf l lies after a slot's, in ring order
abbrev pub blocks_to : ℕ → ℕ → ℕ → ℕ
blocks_to a slot l = (l / (a * a) + 16 - slot) % 16

-- leaf l comes before leaf k, in ring order from a slot on
abbrev pub Before : ℕ → ℕ → ℕ → ℕ → Type 0
Before a slot l k = (blocks_to a slot l < blocks_to a slot k) ⊎ ((blocks_to a slot l ≡ blocks_to a slot k) × (l % (a * a) < k % (a * a)))

-- leaf l is filled, and no filled leaf comes before it in ring order, for which so many words are read
pub record LeafFound (a : ℕ) (xs : List ℕ) (slot l words : ℕ) : Type 0 where
  pub within : l < 16 * (a * a)
  pub read : words ≡ blocks_to a slot l + 2
  pub filled : bucket_head xs l ≡ 0 → ⊥
  pub first : (k : ℕ) → k < 16 * (a * a) → (bucket_head xs k ≡ 0 → ⊥)
      → (blocks_to a slot l < blocks_to a slot k) ⊎ ((blocks_to a slot l ≡ blocks_to a slot k) × (l % (a * a) ≤ k % (a * a)))

-- that leaf; or no leaf is filled, and the 16 roots are read
abbrev pub FirstLeaf : ℕ → List ℕ → ℕ → Option ℕ → ℕ → Type 0
FirstLeaf a xs slot None words = ((k : ℕ) → k < 16 * (a * a) → bucket_head xs k ≡ 0) × (words ≡ 16)
FirstLeaf a xs slot (Some l) words = LeafFound a xs slot l words

-- none of the stations from a number on and below s waits
abbrev pub NoneTo : ℕ → List ℕ → ℕ → ℕ → Type 0
NoneTo a xs from s = (x : ℕ) → from ≤ x → x < 256 → x < s → Waits a xs x → ⊥

-- the first station of the overflow table from a number on
abbrev pub Later : ℕ → List ℕ → ℕ → Option ℕ → Type 0
Later a xs from None = NoneTo a xs from 256
Later a xs from (Some s) = (s < 256) × Waits a xs s × NoneTo a xs from s
