-- The number that a caller in Rust or C gets for any answer, and the numbers that are lent for its values, as the call leaves them.
use Rattle.std.specs.Prelude.{List, [], ◌∷◌, ℕ, set, Result, Ok, Err}
use Rattle.refusal.specs.declared.Refusal.{Refusal}
use Rattle.refusal.specs.Numbers.{number_of}

-- 0 where it is no refusal
abbrev pub code_of : {T : Type 0} → Result T Refusal → ℕ
code_of (Ok a) = 0
code_of (Err e) = number_of e

-- an answer of one number
abbrev pub number_values : Result ℕ Refusal → List ℕ → List ℕ
number_values (Ok n) old = set old 0 n
number_values (Err e) old = old

-- a refusal's station, that of 2, 4 and 5
abbrev pub first_or : List ℕ → List ℕ → List ℕ
first_or [] old = old
first_or (s ∷ ss) old = set old 0 s
