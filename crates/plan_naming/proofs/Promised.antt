-- An answer that is the definition's keeps the whole promise.
use mathlib.Core.Path.{◌≡◌, ◌∙◌, ap}
use mathlib.Core.List.{List}
use Prim.Native.Nat.{ℕ}
use Rattle.std.specs.Prelude.{Result}
use Rattle.refusal.specs.declared.Refusal.{Refusal}
use Rattle.plan_format.proofs.Answers.{answer_number, answer_station_lem}
use Rattle.plan_naming.specs.Naming.{NamePlace, name_at, name_cases, naming}
use Rattle.plan_naming.specs.Promises.{name_says, name_station, PlacesName}

pub places : {p : List ℕ} {k : ℕ} {r : Result NamePlace Refusal} → r ≡ naming p k → PlacesName p k r
unfolding naming
places {p} {k} e = record {
  answer = e;
  number = ap name_says e ∙ answer_number (name_cases p k) (name_at p k);
  station = ap name_station e ∙ answer_station_lem (name_cases p k) (name_at p k);
}
