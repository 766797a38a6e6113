-- What showing a station's name promises.
use Rattle.std.specs.Prelude.{◌≡◌, List, [], ℕ, length, Result, Ok, Err, IfOk}
use Rattle.std.specs.Borrow.{Bor}
use Rattle.refusal.specs.declared.Refusal.{Refusal}
use Rattle.refusal.specs.Numbers.{stations_of}
use Rattle.refusal.specs.Tests.{Verdict, judged}
use Rattle.refusal.specs.Cases.{first_of, checks_of}
use Rattle.plan_format.specs.Numbers.{answer_says, answer_station}
use Rattle.plan_naming.specs.declared.Named.{Named}
use Rattle.plan_naming.specs.Naming.{NamePlace, name_cases, naming, IsPart}

-- the number, and the station: none where it is no refusal
abbrev pub name_says : Result NamePlace Refusal → Verdict
name_says r = answer_says r

abbrev pub name_station : Result NamePlace Refusal → List ℕ
name_station r = answer_station r

-- of the plan's bytes, the station k and the answer
pub record PlacesName (plan : List ℕ) (k : ℕ) (r : Result NamePlace Refusal) : Type 0 where
  pub answer : r ≡ naming plan k
  pub number : name_says r ≡ judged (checks_of (name_cases plan k))
  pub station : name_station r ≡ first_of stations_of (name_cases plan k) []

-- where a name stands that is shown
abbrev pub place_of : Named → NamePlace
place_of n = record { at = n.at; len = length n.part.now }

abbrev pub name_placed : Result Named Refusal → Result NamePlace Refusal
name_placed (Ok n) = Ok (place_of n)
name_placed (Err e) = Err e

-- the answer, and with it the name as that part of the caller's bytes
pub record ShowsName (plan : Bor (List ℕ)) (k : ℕ) (r : Result Named Refusal) : Type 0 where
  pub places : PlacesName plan.now k (name_placed r)
  pub part : IfOk r (λ n. IsPart plan n.part (place_of n))
