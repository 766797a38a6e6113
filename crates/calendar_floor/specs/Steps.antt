-- What raising the floor ensures, step by step; no promise to a caller cites these.
use Rattle.std.specs.Prelude.{◌≡◌, ◌⊎◌, List, ℕ, suc, ◌+◌, ◌*◌, ◌≤◌, ◌<◌, length}
use Rattle.calendar_cells.specs.Table.{due_of, bucket_of, Due, Table}
use Rattle.calendar_buckets.specs.Promises.{Kept}
use Rattle.calendar_header.specs.Bytes.{width_of, floor_of, count_of, home_of, Header, SoundAt}

-- a calendar in which stations from a number on may still wait in the overflow table though the ring covers their times
pub record Settling (a from : ℕ) (xs : List ℕ) : Type 0 where
  pub long : 128 * (a * a) ≤ length xs
  pub header : Header a xs
  pub table : Table a xs
  pub absent : (x : ℕ) → x < 256 → count_of xs ≤ x → due_of xs x ≡ 0
  pub since : (x : ℕ) → x < 256 → Due xs x → floor_of xs < due_of xs x
  pub homes : (x : ℕ) → x < 256 → Due xs x → (bucket_of xs x ≡ home_of a xs x) ⊎ ((bucket_of xs x ≡ 16 * (a * a) + x) × (from ≤ x))

-- no header word and no due is changed
pub record Same (xs ys : List ℕ) : Type 0 where
  pub kept : Kept xs ys
  pub dues : (x : ℕ) → x < 256 → due_of ys x ≡ due_of xs x

-- station s stands in the bucket of its time
pub record Moved (a s : ℕ) (xs ys : List ℕ) : Type 0 where
  pub same : Same xs ys
  pub settling : Settling a (suc s) ys

-- all do
pub record Settled (a : ℕ) (xs ys : List ℕ) : Type 0 where
  pub same : Same xs ys
  pub sound : SoundAt a ys

-- the floor is set, and no width, number of stations or due is changed
pub record Risen (a floor : ℕ) (xs ys : List ℕ) : Type 0 where
  pub sound : SoundAt a ys
  pub width_is : width_of ys ≡ width_of xs
  pub floor_is : floor_of ys ≡ floor
  pub count_is : count_of ys ≡ count_of xs
  pub dues : (x : ℕ) → x < 256 → due_of ys x ≡ due_of xs x
