-- The paper's number of each of the plan's answers, and the station with it (document 01: "A refusal answers its number, the station for 2, 4 and 5").
use Rattle.std.specs.Prelude.{ℕ, List, [], Result, Ok, Err}
use Rattle.refusal.specs.declared.Refusal.{Refusal}
use Rattle.refusal.specs.Numbers.{number_of, stations_of}
use Rattle.refusal.specs.Tests.{Verdict, accepted, refused}

-- ---- the number

abbrev pub answer_says : {T : Type 0} → Result T Refusal → Verdict
answer_says (Ok x) = accepted
answer_says (Err r) = refused (number_of r)

-- ---- the station: none where it is no refusal

abbrev pub answer_station : {T : Type 0} → Result T Refusal → List ℕ
answer_station (Ok x) = []
answer_station (Err r) = stations_of r

-- ---- the same of each call's answer

abbrev pub read_says : Result ℕ Refusal → Verdict
read_says r = answer_says r

abbrev pub read_station : Result ℕ Refusal → List ℕ
read_station r = answer_station r

abbrev pub write_says : Result ℕ Refusal → Verdict
write_says r = answer_says r

abbrev pub write_station : Result ℕ Refusal → List ℕ
write_station r = answer_station r
