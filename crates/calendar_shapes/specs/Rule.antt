-- The rule of the table of shapes: "arity squared leaves under arity plus one words" (document 02, change 9).
use Rattle.std.specs.Prelude.{◌≡◌, Option, Some, None, ℕ, ◌+◌, ◌*◌, ◌%◌, ◌^◌, ◌≤◌, ◌<◌}
use Rattle.calendar_shapes.specs.declared.Shape.{Shape}
use Rattle.calendar_shapes.specs.declared.Entry.{Entry}

-- the arity in a row, whatever number stands for the row
unfoldable pub arity_in : ℕ → ℕ
arity_in row = 2 ^ (3 + row % 4)

-- the shape in row i
pub record Right (i : ℕ) (q : Shape) : Type 0 where
  pub arity_is : q.arity ≡ 2 ^ (3 + i)
  pub leaves_is : q.leaves ≡ q.arity * q.arity
  pub words_is : q.words ≡ q.arity + 1

-- what looking an arity up gives
abbrev pub EntryIs : ℕ → Option Entry → Type 0
EntryIs a (Some e) = (e.row < 4) × Right e.row e.shape × (e.shape.arity ≡ a)
EntryIs a None = (i : ℕ) → i < 4 → a ≡ 2 ^ (3 + i) → ⊥

-- what the sums over an arity need
pub record Sizes (a : ℕ) : Type 0 where
  pub low : 8 ≤ a
  pub high : a ≤ 64
  pub square : 8 * a ≤ a * a
  pub most : a * a ≤ 4096
