-- What the reader's calls promise (document 01, "Plan of a line": the stations stand in one lent list of station records).
use Rattle.std.specs.Prelude.{◌≡◌, List, [], ◌++◌, ℕ, length, drop, Result}
use Rattle.refusal.specs.declared.Refusal.{Refusal}
use Rattle.refusal.specs.Numbers.{stations_of}
use Rattle.refusal.specs.Tests.{judged}
use Rattle.refusal.specs.Cases.{first_of, checks_of}
use Rattle.plan_format.specs.declared.Station.{Station}
use Rattle.plan_format.specs.Plan.{stations_from}
use Rattle.plan_format.specs.Typed.{AreBytes}
use Rattle.plan_format.specs.Numbers.{read_says, read_station}
use Rattle.plan_format.specs.Reading.{plan_cases, judging, read_cases, reading, read_of}

-- of the plan's bytes and the answer
pub record Judges (plan : List ℕ) (r : Result ℕ Refusal) : Type 0 where
  pub answer : r ≡ judging plan
  pub number : read_says r ≡ judged (checks_of (plan_cases plan))
  pub station : read_station r ≡ first_of stations_of (plan_cases plan) []

-- the same for a list of so many records
pub record JudgesIn (plan : List ℕ) (room : ℕ) (r : Result ℕ Refusal) : Type 0 where
  pub answer : r ≡ reading plan room
  pub number : read_says r ≡ judged (checks_of (read_cases plan room))
  pub station : read_station r ≡ first_of stations_of (read_cases plan room) []

-- also of the list at entry and at exit. A refusal changes nothing, and what stands after the last record read is unchanged. `typed`: the plan is a slice of
-- bytes
pub record ReadsPlan (plan : List ℕ) (list : List Station) (r : Result ℕ Refusal) (after : List Station) : Type 0 where
  pub judges : JudgesIn plan (length list) r
  pub typed : AreBytes plan
  pub records : after ≡ stations_from plan 0 (read_of r) ++ drop (read_of r) list
