-- How high a number is drawn in a picture.
use Rattle.std.specs.Prelude.{cond, ℕ, zero, suc, ◌*◌, ◌/◌, min, leb}

-- the top is 280 high, and nothing is higher; a number over 10 to the 12th, which no day has, is not multiplied
unfoldable pub height_of : ℕ → ℕ → ℕ
height_of v zero = 0
height_of v (suc t) = cond (leb v 1000000000000) (min 280 (280 * v / suc t)) 280
