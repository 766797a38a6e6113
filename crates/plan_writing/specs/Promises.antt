-- What the writer promises (document 01, "Plan of a line").
use Rattle.std.specs.Prelude.{◌≡◌, List, [], ℕ, length, take, Result}
use Rattle.refusal.specs.declared.Refusal.{Refusal}
use Rattle.refusal.specs.Numbers.{stations_of}
use Rattle.refusal.specs.Tests.{judged}
use Rattle.refusal.specs.Cases.{first_of, checks_of}
use Rattle.plan_format.specs.declared.Station.{Station}
use Rattle.plan_format.specs.Numbers.{write_says, write_station}
use Rattle.plan_format.specs.Typed.{AreSized}
use Rattle.plan_format.specs.Writing.{plan_of, write_cases, writing, left}

-- of the list, how many of its stations are asked for, the output at entry, the answer and the output at exit. `typed`: the list is a slice of station
-- records
pub record WritesPlan (list : List Station) (n : ℕ) (out : List ℕ) (r : Result ℕ Refusal) (after : List ℕ) : Type 0 where
  pub answer : r ≡ writing n list (length out)
  pub number : write_says r ≡ judged (checks_of (write_cases n list (length out)))
  pub station : write_station r ≡ first_of stations_of (write_cases n list (length out)) []
  pub typed : AreSized list
  pub output : after ≡ left r (plan_of (take n list)) out
