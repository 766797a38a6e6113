-- What each call on the bits above the buckets promises, over the arity a.
use Rattle.std.specs.Prelude.{◌≡◌, List, ℕ, ◌+◌, ◌*◌, ◌≤◌, ◌<◌, length}
use Rattle.calendar_cells.specs.Cells.{word_at, back_at, link_at}
use Rattle.calendar_cells.specs.Tree.{Tree}
use Rattle.calendar_cells.specs.Table.{node_word, root_of, bucket_head, bytes_for}

-- the bits above a bucket say whether it is empty, and nothing else is changed. Before, the bits were right for heads that differ in this bucket at
-- most, and of which `when` holds
pub record Refreshed (a : ℕ) (when : (ℕ → ℕ) → Type 0) (list : ℕ) (xs ys : List ℕ) : Type 0 where
  pub size : length ys ≡ length xs
  pub words : (i : ℕ) → i < 264 → word_at i ys ≡ word_at i xs
  pub backs : list < 16 * (a * a) + 256 → (k : ℕ) → k < 257 → back_at k ys ≡ back_at k xs
  pub links : list < 16 * (a * a) + 256 → (k : ℕ) → k < 512 + 16 * (a * a) → link_at k ys ≡ link_at k xs
  pub tree : bytes_for a ≤ length xs → list < 16 * (a * a) + 256 → (head : ℕ → ℕ) → when head
      → ((l : ℕ) → l < 16 * (a * a) + 256 → (l ≡ list → ⊥) → bucket_head xs l ≡ head l)
      → Tree a head (node_word a xs) (root_of xs) → Tree a (bucket_head ys) (node_word a ys) (root_of ys)

-- the same of a bucket that is filled now
abbrev pub Raised : ℕ → ℕ → List ℕ → List ℕ → Type 0
Raised a list xs ys = Refreshed a (λ _. bucket_head xs list ≡ 0 → ⊥) list xs ys

-- the same of a bucket that was filled before
abbrev pub Lowered : ℕ → ℕ → List ℕ → List ℕ → Type 0
Lowered a list xs ys = Refreshed a (λ head. head list ≡ 0 → ⊥) list xs ys
