-- The number that a caller in Rust or C gets for a run to a time, and the numbers that are lent for the values of it and of the least unrun time, as the call
-- leaves them.
use Rattle.std.specs.Prelude.{List, ℕ, set, Result, Ok, Err}
use Rattle.refusal.specs.declared.Refusal.{Refusal}
use Rattle.refusal.specs.Numbers.{number_of}
use Rattle.engine_answers.specs.declared.NextAnswer.{NextAnswer}
use Rattle.engine_answers.specs.declared.UntilError.{UntilError}
use Rattle.engine_answers.specs.declared.UntilError.TheVariants as U

-- ---- the number: 0 where it is done

-- a refusal's number is no 17 here (`Ending` of engine_until), and none is 256
abbrev pub until_code : Result Unit UntilError → ℕ
until_code (Ok done) = 0
until_code (Err (U.Refused e)) = number_of e
until_code (Err (U.Busy time)) = 17
until_code (Err U.Unfinished) = 256

-- ---- the values

abbrev pub next_values : Result NextAnswer Refusal → List ℕ → List ℕ
next_values (Ok a) old = set (set old 0 a.station) 1 a.time
next_values (Err e) old = old

abbrev pub until_values : Result Unit UntilError → List ℕ → List ℕ
until_values (Ok done) old = old
until_values (Err (U.Refused e)) old = old
until_values (Err (U.Busy time)) old = set old 0 time
until_values (Err U.Unfinished) old = old
