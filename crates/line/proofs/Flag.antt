-- The number of a yes or no is that of the code's cast, fits any width, and tells the two apart.
use mathlib.Core.Path.{◌≡◌, refl}
use mathlib.Core.Bool.{Bool, true, false, not}
use Prim.Native.Nat.{◌<◌}
use native.Mathlib.Omega.{arith}
use lib.Dec.{eqb}
use mir.Val.{bool_byte}
use Rattle.line.specs.Flag.{flag_of}

pub cast_flag : (b : Bool) → bool_byte b ≡ flag_of b
cast_flag true = refl
cast_flag false = refl

pub flag_low : (b : Bool) → flag_of b < 2
flag_low true = omega arith
flag_low false = omega arith

pub flag_back : (b : Bool) → not (eqb (flag_of b) 0) ≡ b
flag_back true = refl
flag_back false = refl
