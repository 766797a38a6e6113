-- What the private step of opening ensures; no promise to a caller cites this.
use Rattle.std.specs.Prelude.{◌≡◌, List, ℕ, ◌*◌, ◌≤◌, ◌<◌, length}
use Rattle.calendar_cells.specs.Table.{due_of, Table}
use Rattle.calendar_header.specs.Bytes.{width_of, floor_of, ring_start, end_of, limit_of, slot_in, count_of}

-- the header of n stations, leaf width w and floor 0, with q leaves a block, before a table that is as it was
pub record BegunCalendar (n w q : ℕ) (xs ys : List ℕ) : Type 0 where
  pub size : length ys ≡ length xs
  pub table : (a : ℕ) → Table a xs → Table a ys
  pub dues : (x : ℕ) → x < 256 → due_of ys x ≡ due_of xs x
  pub width_is : 64 ≤ length xs → width_of ys ≡ w
  pub floor_is : 64 ≤ length xs → floor_of ys ≡ 0
  pub start_is : 64 ≤ length xs → ring_start ys ≡ 0
  pub end_is : 64 ≤ length xs → end_of ys ≡ w * q
  pub limit_is : 64 ≤ length xs → limit_of ys ≡ w * (16 * q)
  pub slot_is : 64 ≤ length xs → slot_in ys ≡ 0
  pub count_is : 64 ≤ length xs → count_of ys ≡ n
