-- A search for the lowest station that a test finds wrong, said of what the calls of the test return.
use Rattle.std.specs.Prelude.{ℕ, Bool, false, ◌<◌}

-- the test returns false of each station below n
abbrev pub NoneBelow : (ℕ → Bool → Type 0) → ℕ → Type 0
NoneBelow returns n = (k : ℕ) → k < n → returns k false
