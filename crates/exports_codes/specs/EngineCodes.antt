-- The numbers that a caller in Rust or C lends for the values of an engine's answer, as the call leaves them.
use Rattle.std.specs.Prelude.{List, ℕ, set, Result, Ok, Err}
use Rattle.refusal.specs.declared.Refusal.{Refusal}
use Rattle.refusal.specs.Numbers.{stations_of}
use Rattle.line.specs.declared.State.{State}
use Rattle.line.specs.Flag.{flag_of}
use Rattle.engine_answers.specs.declared.PostAnswer.{PostAnswer}
use Rattle.engine_answers.specs.declared.RunAnswer.{RunAnswer}
use Rattle.engine_answers.specs.declared.LowestAnswer.{LowestAnswer}
use Rattle.exports_codes.specs.AnswerCodes.{first_or}

abbrev pub open_values : Result Unit Refusal → List ℕ → List ℕ
open_values (Ok done) old = old
open_values (Err e) old = first_or (stations_of e) old

abbrev pub post_values : Result PostAnswer Refusal → List ℕ → List ℕ
post_values (Ok a) old = set (set old 0 a.number) 1 a.undone
post_values (Err e) old = old

abbrev pub run_values : Result RunAnswer Refusal → List ℕ → List ℕ
run_values (Ok a) old = set (set old 0 a.station) 1 a.undone
run_values (Err e) old = old

abbrev pub lowest_values : Result LowestAnswer Refusal → List ℕ → List ℕ
lowest_values (Ok a) old = set (set (set old 0 a.station) 1 a.undone) 2 a.words
lowest_values (Err e) old = old

abbrev pub record_values : Result State Refusal → List ℕ → List ℕ
record_values (Ok s) old =
    set (set (set (set (set (set (set old 0 s.draw) 1 s.level) 2 s.heard) 3 s.lost) 4 s.sent) 5 s.last) 6 (flag_of s.reached)
record_values (Err e) old = old
