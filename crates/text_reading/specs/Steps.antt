-- What the private steps of reading ensure.
use Rattle.std.specs.Prelude.{cond, ℕ, leb, Option, None, Some}

-- a total that fits 64 bits
abbrev pub total_of : ℕ → Option ℕ
total_of t = cond (leb t 18446744073709551615) (Some t) None
