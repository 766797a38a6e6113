-- What each call of the table promises, over the arity a.
use Rattle.std.specs.Prelude.{◌≡◌, Option, Some, None, cond, ◌&&◌, ◌⊎◌, List, ℕ, suc, ◌+◌, ◌*◌, ◌≤◌, ◌<◌, ltb, leb, length, get_or}
use Rattle.calendar_cells.specs.Cells.{word_at}
use Rattle.calendar_cells.specs.Lists.{rank_of}
use Rattle.calendar_cells.specs.Table.{due_of, bucket_of, bytes_for, Due, Table}
use Rattle.calendar_search.specs.Promises.{blocks_to, Before}

-- the caller's bytes, the arity and the length are as they were
pub record Kept (xs ys : List ℕ) : Type 0 where
  pub size : length ys ≡ length xs
  pub words : (i : ℕ) → i < 8 → word_at i ys ≡ word_at i xs

-- a table in which no station but s is changed
pub record Changed (a s : ℕ) (xs ys : List ℕ) : Type 0 where
  pub table : Table a ys
  pub dues : (x : ℕ) → x < 256 → (x ≡ s → ⊥) → due_of ys x ≡ due_of xs x
  pub buckets : (x : ℕ) → x < 256 → (x ≡ s → ⊥) → bucket_of ys x ≡ bucket_of xs x

-- station s is absent
pub record Gone (a s : ℕ) (xs ys : List ℕ) : Type 0 where
  pub changed : Changed a s xs ys
  pub due_is : due_of ys s ≡ 0

-- station s has due number d and stands in the bucket l
pub record Placed (a s d l : ℕ) (xs ys : List ℕ) : Type 0 where
  pub changed : Changed a s xs ys
  pub due_is : due_of ys s ≡ d
  pub bucket_is : bucket_of ys s ≡ l

-- the bucket of station s for a leaf: after the last leaf, its own in the overflow table
unfoldable pub bucket_for : ℕ → ℕ → ℕ → ℕ
bucket_for a leaf s = cond (ltb leaf (16 * (a * a))) leaf (16 * (a * a) + s)

-- station h comes before x or is x: by leaf in ring order, then by due and number
abbrev pub NotAfter : ℕ → List ℕ → ℕ → ℕ → ℕ → Type 0
NotAfter a xs slot h x =
    Before a slot (bucket_of xs h) (bucket_of xs x) ⊎ ((bucket_of xs h ≡ bucket_of xs x) × (rank_of (due_of xs) h ≤ rank_of (due_of xs) x))

-- h is the first station in the leaves. So many bitmap words are read for it: the roots of the blocks from the slot on to the station's, and a node
pub record FirstFound (a : ℕ) (xs : List ℕ) (slot h words : ℕ) : Type 0 where
  pub station : h < 256
  pub due : Due xs h
  pub leaf : bucket_of xs h < 16 * (a * a)
  pub first : (x : ℕ) → x < 256 → Due xs x → bucket_of xs x < 16 * (a * a) → NotAfter a xs slot h x
  pub read : words ≡ blocks_to a slot (bucket_of xs h) + 2

-- that station; or no station stands in a leaf, and the 16 roots are read
abbrev pub First : ℕ → List ℕ → ℕ → Option ℕ → ℕ → Type 0
First a xs slot None words = ((x : ℕ) → x < 256 → Due xs x → 16 * (a * a) ≤ bucket_of xs x) × (words ≡ 16)
First a xs slot (Some h) words = FirstFound a xs slot h words

-- the table's bytes are 0, and the others but word 7, the row, are as they were; where the buffer is long enough it is a table without stations
pub record Cleared (a : ℕ) (xs ys : List ℕ) : Type 0 where
  pub size : length ys ≡ length xs
  pub bytes : (k : ℕ) → (k < 56) ⊎ (64 ≤ k) → get_or ys k 0 ≡ cond (leb 64 k && ltb k (bytes_for a)) 0 (get_or xs k 0)
  pub words : (i : ℕ) → i < 7 → word_at i ys ≡ word_at i xs
  pub table : bytes_for a ≤ length xs → Table a ys
  pub absent : (x : ℕ) → x < 256 → due_of ys x ≡ 0
