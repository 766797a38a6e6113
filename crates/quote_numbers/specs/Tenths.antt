-- A number of tenths: the mean of so many days, rounded down, and its digits with the point.
use Rattle.std.specs.Prelude.{List, ◌∷◌, ◌++◌, ℕ, zero, suc, ◌*◌, ◌/◌, ◌%◌}
use Rattle.text.specs.Decimal.{decimal}

unfoldable pub tenths_aday : ℕ → ℕ → ℕ
tenths_aday frames zero = 0
tenths_aday frames (suc d) = 10 * frames / suc d

unfoldable pub tenths : ℕ → List ℕ
tenths v = decimal (v / 10) ++ (46 ∷ decimal (v % 10))
