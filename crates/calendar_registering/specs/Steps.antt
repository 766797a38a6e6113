-- What entering a station ensures; no promise to a caller cites this.
use Rattle.std.specs.Prelude.{◌≡◌, List, ℕ, ◌<◌}
use Rattle.calendar_cells.specs.Table.{due_of}
use Rattle.calendar_buckets.specs.Promises.{Kept}
use Rattle.calendar_header.specs.Bytes.{SoundAt}

-- station s has the due number d, 0 where it is absent now, and nothing else is changed
pub record Entered (a s d : ℕ) (xs ys : List ℕ) : Type 0 where
  pub sound : SoundAt a ys
  pub kept : Kept xs ys
  pub due_is : due_of ys s ≡ d
  pub dues : (x : ℕ) → x < 256 → (x ≡ s → ⊥) → due_of ys x ≡ due_of xs x
