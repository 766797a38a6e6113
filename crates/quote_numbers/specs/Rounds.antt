-- Round numbers for a scale: 1, 2 and 5 times a power of ten.
use Rattle.std.specs.Prelude.{cond, ℕ, zero, suc, ◌*◌, leb}

-- the least of the three that is `least` or more; the third where all are less
unfoldable pub round_at : ℕ → ℕ → ℕ
round_at power least = cond (leb least power) power (cond (leb least (2 * power)) (2 * power) (5 * power))

-- the same from this power of ten on, up to so many powers higher
unfoldable pub round_from : ℕ → ℕ → ℕ → ℕ
round_from zero power least = round_at power least
round_from (suc k) power least = cond (leb least (5 * power)) (round_at power least) (round_from k (10 * power) least)

-- up to 5 times 10 to the 12th
unfoldable pub round_up : ℕ → ℕ
round_up least = round_from 12 1 least
