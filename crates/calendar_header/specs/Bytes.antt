-- What a calendar's bytes stand for, and when they stand for a calendar.
use Rattle.std.specs.Prelude.{◌≡◌, List, [], ◌∷◌, ℕ, zero, suc, ◌+◌, ◌-◌, ◌*◌, ◌≤◌, ◌<◌, length}
use Rattle.std.proofs.Math.Option.{Option, none, some}
use Rattle.refusal.specs.Tests.{horizon}
use Rattle.calendar_cells.specs.Cells.{word_at}
use Rattle.calendar_cells.specs.Table.{arity_of, due_of, bucket_of, Due, Table}
use Rattle.calendar_buckets.specs.Promises.{bucket_for}
use Rattle.calendar_ring.specs.Ring.{block_of, slot_of_time, ring_end, leaf_for}
use Rattle.calendar_header.specs.Rules.{Calendar}

-- ---- the header

abbrev pub width_of : List ℕ → ℕ
width_of xs = word_at 0 xs

abbrev pub floor_of : List ℕ → ℕ
floor_of xs = word_at 1 xs

-- where the floor's block starts and ends
abbrev pub ring_start : List ℕ → ℕ
ring_start xs = word_at 2 xs

abbrev pub end_of : List ℕ → ℕ
end_of xs = word_at 3 xs

-- where the ring ends, and the slot of the floor's block
abbrev pub limit_of : List ℕ → ℕ
limit_of xs = word_at 4 xs

abbrev pub slot_in : List ℕ → ℕ
slot_in xs = word_at 5 xs

-- the number of stations
abbrev pub count_of : List ℕ → ℕ
count_of xs = word_at 6 xs

-- the header of a calendar of arity a
pub record Header (a : ℕ) (xs : List ℕ) : Type 0 where
  pub width_pos : 0 < width_of xs
  pub width_most : width_of xs ≤ 1048576
  pub floor_most : floor_of xs ≤ suc horizon
  pub count_pos : 0 < count_of xs
  pub count_most : count_of xs ≤ 256
  pub start_is : ring_start xs ≡ block_of a (width_of xs) (floor_of xs) * (width_of xs * (a * a))
  pub end_is : end_of xs ≡ (block_of a (width_of xs) (floor_of xs) + 1) * (width_of xs * (a * a))
  pub limit_is : limit_of xs ≡ ring_end a (width_of xs) (floor_of xs)
  pub slot_is : slot_in xs ≡ slot_of_time a (width_of xs) (floor_of xs)

-- ---- the bytes are a calendar

-- the bucket to which a station's time belongs
abbrev pub home_of : ℕ → List ℕ → ℕ → ℕ
home_of a xs x = bucket_for a (leaf_for a (width_of xs) (limit_of xs) (due_of xs x - 1)) x

-- the bytes are a calendar of arity a
pub record SoundAt (a : ℕ) (xs : List ℕ) : Type 0 where
  pub long : 128 * (a * a) ≤ length xs
  pub header : Header a xs
  pub table : Table a xs
  pub absent : (x : ℕ) → x < 256 → count_of xs ≤ x → due_of xs x ≡ 0
  pub since : (x : ℕ) → x < 256 → Due xs x → floor_of xs < due_of xs x
  pub homes : (x : ℕ) → x < 256 → Due xs x → bucket_of xs x ≡ home_of a xs x

-- of the arity that they say
abbrev pub Sound : List ℕ → Type 0
Sound xs = SoundAt (arity_of xs) xs

-- ---- the state that they stand for

unfoldable pub time_for : ℕ → Option ℕ
time_for zero = none
time_for (suc t) = some t

unfoldable pub times_from : (ℕ → ℕ) → ℕ → ℕ → List (Option ℕ)
times_from due i zero = []
times_from due i (suc n) = time_for (due i) ∷ times_from due (suc i) n

unfoldable pub state_of : List ℕ → Calendar
state_of xs = record { arity = arity_of xs; width = width_of xs; floor = floor_of xs; times = times_from (due_of xs) 0 (count_of xs) }
