-- A number at the right of a column.
use Rattle.std.specs.Prelude.{List, ◌++◌, ℕ, ◌-◌, length, replicate}
use Rattle.text.specs.Decimal.{decimal}

-- after as many spaces as fill the width `wide`; none where the number is wider
unfoldable pub right_in : ℕ → ℕ → List ℕ
right_in wide v = replicate (wide - length (decimal v)) 32 ++ decimal v
