-- A number's digits as the library prints them, and a number of tenths so printed.
use Rattle.std.proofs.Common.{◌≡◌, ◌<◌, ◌/◌, ◌%◌, ◌^◌, ◌+◌, ℕ, ◌∷◌, [], ◌++◌, ap, ap₂, ◌∙◌, arith}
use Rattle.std.specs.Fmt.{decimal}
use Rattle.std.proofs.lemmas.Fmt.{decimal_digit, decimal_step}
use Prim.Native.Nat.{zero, suc}
use native.Mathlib.Decide.{dec_lt}
use native.Mathlib.Nat.{pow-succ'}
use borrow.Author.Tests.{lt-ltb, le-ltb}
use Rattle.text.specs.Decimal.{digits, decimal as decimalText}
use Rattle.quote_numbers.specs.Tenths.{tenths}

digits_same : (k n : ℕ) → n < 10 ^ suc k → n < 2 ^ 64 → decimal n ≡ digits (suc k) n
unfolding digits
digits_same zero n h l = let d : n < 10 = omega arith in rw (lt-ltb n 10 d) (decimal_digit n d)
digits_same (suc k) n h l = go (dec_lt n 10) (digits_same k (n / 10) (omega (arith, pow-succ' 10 (suc k))) (omega arith))
  where
    go : Dec (n < 10) → decimal (n / 10) ≡ digits (suc k) (n / 10) → decimal n ≡ digits (suc (suc k)) n
    go (yes d) e = rw (lt-ltb n 10 d) (decimal_digit n d)
    go (no d) e = rw (le-ltb n 10 (omega arith)) (decimal_step n (omega arith) l ∙ ap (λ t. t ++ ((48 + n % 10) ∷ [])) e)

decimal_same : (n : ℕ) → n < 2 ^ 64 → decimal n ≡ decimalText n
unfolding decimalText
decimal_same n l = digits_same 19 n (omega arith) l

pub tenths_text : (v : ℕ) → v < 2 ^ 64 → decimal (v / 10) ++ (46 ∷ decimal (v % 10)) ≡ tenths v
unfolding tenths
tenths_text v l = ap₂ (λ a b. a ++ (46 ∷ b)) (decimal_same (v / 10) (omega arith)) (decimal_same (v % 10) (omega arith))
