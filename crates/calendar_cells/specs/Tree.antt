-- Two levels of bitmap words, over the number a of children of a word: "a bit is set exactly when something is registered below it" (document 01,
-- "Calendar").
use Rattle.std.specs.Prelude.{◌≡◌, cond, ℕ, ◌+◌, ◌*◌, ◌/◌, ◌%◌, ◌^◌, ◌<◌, ltb}
use Rattle.calendar_bitmap.specs.Child.{child}

-- 1 where x is not 0, else 0
abbrev pub flag : ℕ → ℕ
flag x = cond (ltb 0 x) 1 0

-- the child of `up` for each of the first n places of `low` is set exactly where that place is not 0
abbrev pub Sums : ℕ → ℕ → (ℕ → ℕ) → (ℕ → ℕ) → Type 0
Sums a n up low = (l : ℕ) → l < n → child a (up (l / a)) (l % a) ≡ flag (low l)

-- 16 blocks of a * a leaves, and 256 buckets more, under words of a bits
pub record Tree (a : ℕ) (leaf node root : ℕ → ℕ) : Type 0 where
  pub node_fits : (j : ℕ) → j < 16 * a + 32 → node j < 2 ^ a
  pub root_fits : (r : ℕ) → r < 20 → root r < 2 ^ a
  pub leaves : Sums a (16 * (a * a) + 256) node leaf
  pub nodes : Sums a (16 * a + 32) root node
