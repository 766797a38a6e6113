-- A yes or no as a number.
use Rattle.std.specs.Prelude.{Bool, true, false, ℕ}

abbrev pub flag_of : Bool → ℕ
flag_of true = 1
flag_of false = 0
