-- The numbers that a caller in Rust or C lends for the values of a plan's answer, as the call leaves them.
use Rattle.std.specs.Prelude.{List, ℕ, set, Result, Ok, Err}
use Rattle.refusal.specs.declared.Refusal.{Refusal}
use Rattle.refusal.specs.Numbers.{stations_of}
use Rattle.plan_naming.specs.Naming.{NamePlace}
use Rattle.exports_codes.specs.AnswerCodes.{first_or}

-- how many stations were read, or how many bytes were written
abbrev pub count_values : Result ℕ Refusal → List ℕ → List ℕ
count_values (Ok n) old = set old 0 n
count_values (Err e) old = first_or (stations_of e) old

-- a place by its two numbers
abbrev pub placing : Result (ℕ × ℕ) Refusal → Result NamePlace Refusal
placing (Ok w) = Ok (record { at = w.0; len = w.1 })
placing (Err e) = Err e

-- the name's first byte, and its length
abbrev pub name_values : Result NamePlace Refusal → List ℕ → List ℕ
name_values (Ok w) old = set (set old 0 w.at) 1 w.len
name_values (Err e) old = first_or (stations_of e) old
