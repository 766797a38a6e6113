-- The paper's number and values of each answer (document 01, "Engine calls").
use Rattle.std.specs.Prelude.{ℕ, List, [], Result, Ok, Err}
use Rattle.refusal.specs.declared.Refusal.{Refusal}
use Rattle.refusal.specs.Numbers.{number_of, stations_of}
use Rattle.refusal.specs.Tests.{Verdict, accepted, refused}
use Rattle.line.specs.declared.State.{State}
use Rattle.rules.specs.Engine.{Answer, Refused, Posted, Retracted, Ran, RanLowest, Committed, Recorded}
use Rattle.engine_answers.specs.declared.PostAnswer.{PostAnswer}
use Rattle.engine_answers.specs.declared.RunAnswer.{RunAnswer}
use Rattle.engine_answers.specs.declared.LowestAnswer.{LowestAnswer}

-- an opening: accepted, or its number; the station with it
abbrev pub open_says : Result Unit Refusal → Verdict
open_says (Ok done) = accepted
open_says (Err e) = refused (number_of e)

abbrev pub open_station : Result Unit Refusal → List ℕ
open_station (Ok done) = []
open_station (Err e) = stations_of e

-- "Post .. answers its number", and how many events are undone
abbrev pub post_said : Result PostAnswer Refusal → Answer
post_said (Ok a) = Posted a.number a.undone
post_said (Err e) = Refused (number_of e)

abbrev pub retract_said : Result ℕ Refusal → Answer
retract_said (Ok undone) = Retracted undone
retract_said (Err e) = Refused (number_of e)

-- "Both answer the station."
abbrev pub run_said : Result RunAnswer Refusal → Answer
run_said (Ok a) = Ran a.station a.undone
run_said (Err e) = Refused (number_of e)

-- "run lowest passes the count on" (document 02, change 5)
abbrev pub lowest_said : Result LowestAnswer Refusal → Answer
lowest_said (Ok a) = RanLowest a.station a.undone a.words
lowest_said (Err e) = Refused (number_of e)

-- "It answers their count", with the output as the call left it
abbrev pub commit_said : Result ℕ Refusal → List ℕ → Answer
commit_said (Ok count) output = Committed count output
commit_said (Err e) output = Refused (number_of e)

abbrev pub record_said : Result State Refusal → Answer
record_said (Ok state) = Recorded state
record_said (Err e) = Refused (number_of e)
