-- No byte of a decimal, or of a word with numbers after it, is below a space.
use mathlib.Core.Bool.{Bool, true, false, cond}
use mathlib.Core.List.{List, [], ◌∷◌, ◌++◌}
use Prim.Native.Nat.{ℕ, zero, suc, ◌+◌, ◌/◌, ◌%◌, ◌≤◌}
use native.Mathlib.Omega.{arith}
use lib.Dec.{ltb}
use Rattle.line.specs.Order.{All}
use Rattle.line.proofs.Members.{all_append}
use Rattle.text.specs.Decimal.{digits, decimal}
use Rattle.text.specs.Spaced.{spaced}

-- a byte that is a space or comes after it
abbrev pub Printed : ℕ → Type 0
Printed b = 32 ≤ b

digits_printed : (k n : ℕ) → All Printed (digits k n)
unfolding digits
digits_printed zero n = tt
digits_printed (suc k) n = go (ltb n 10) (digits_printed k (n / 10))
  where
    go : (t : Bool) → All Printed (digits k (n / 10)) → All Printed (cond t ((48 + n) ∷ []) (digits k (n / 10) ++ ((48 + n % 10) ∷ [])))
    go true i = (omega arith, tt)
    go false i = all_append Printed (digits k (n / 10)) ((48 + n % 10) ∷ []) i ((omega arith, tt))

pub decimal_printed : (n : ℕ) → All Printed (decimal n)
unfolding decimal
decimal_printed n = digits_printed 20 n

pub spaced_printed : (word ns : List ℕ) → All Printed word → All Printed (spaced word ns)
unfolding spaced
spaced_printed word [] w = w
spaced_printed word (n ∷ ns) w =
    spaced_printed (word ++ (32 ∷ decimal n)) ns (all_append Printed word (32 ∷ decimal n) w ((omega arith, decimal_printed n)))
