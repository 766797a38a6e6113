-- Two numbers of 64 bits with one decimal are equal.
use mathlib.Core.Path.{◌≡◌, ap}
use mathlib.Core.List.{List, [], ◌++◌}
use Prim.Native.Nat.{ℕ}
use Rattle.text.specs.Decimal.{decimal, Fits}
use Rattle.text.proofs.Reading.{split}

pub one_decimal : (v w : ℕ) → Fits v → Fits w → decimal v ≡ decimal w → v ≡ w
one_decimal v w f g e = (split v w [] [] f g tt tt (ap (λ (l : List ℕ). l ++ []) e)).0
