-- An answer that is the definition's keeps the whole promise.
use mathlib.Core.Path.{◌≡◌, ◌∙◌, ap}
use mathlib.Core.List.{List}
use Prim.Native.Nat.{ℕ}
use Rattle.std.specs.Prelude.{Result}
use Rattle.refusal.specs.declared.Refusal.{Refusal}
use Rattle.plan_format.specs.Plan.{count}
use Rattle.plan_format.specs.Numbers.{read_says, read_station}
use Rattle.plan_format.specs.Reading.{plan_cases, judging, read_cases, reading}
use Rattle.plan_format.proofs.Answers.{answer_number, answer_station_lem}
use Rattle.plan_reading.specs.Promises.{Judges, JudgesIn}

pub judges : {p : List ℕ} {r : Result ℕ Refusal} → r ≡ judging p → Judges p r
unfolding judging
judges {p} e = record {
  answer = e;
  number = ap read_says e ∙ answer_number (plan_cases p) (count p);
  station = ap read_station e ∙ answer_station_lem (plan_cases p) (count p);
}

pub judges_in : {p : List ℕ} {room : ℕ} {r : Result ℕ Refusal} → r ≡ reading p room → JudgesIn p room r
unfolding reading
judges_in {p} {room} e = record {
  answer = e;
  number = ap read_says e ∙ answer_number (read_cases p room) (count p);
  station = ap read_station e ∙ answer_station_lem (read_cases p room) (count p);
}
