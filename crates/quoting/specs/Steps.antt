-- What the private steps of a quote ensure.
use Rattle.std.specs.Prelude.{◌≡◌, List, ℕ, ◌+◌, ◌*◌, ◌≤◌, ◌<◌, length, set, Result, Ok, Err}
use Rattle.refusal.specs.declared.Refusal.{Refusal}
use Rattle.line.specs.declared.State.{State}
use Rattle.rules.specs.Engine.{Call, Record, Recorded}
use Rattle.rules.specs.Demand.{Made}
use Rattle.plan_format.specs.Line.{line_of}
use Rattle.engine_answers.specs.declared.UntilError.{UntilError}
use Rattle.engine_promises.specs.Answers.{record_said}
use Rattle.engine_promises.specs.Promises.{Answered}
use Rattle.engine_until.specs.Promises.{Works, Reaches, RunsUntil}
use Rattle.figure.specs.Figure.{StandsAt}
use Rattle.scenario.specs.Scenario.{numbered}
use Rattle.scenario_posting.specs.Promises.{AllPosted}
use Rattle.quote_setup.specs.Promises.{OpensQuote}
use Rattle.quoting.specs.Promises.{HourIs}

-- where the collector's record is st, its counts stand at the hour's place, and nothing else is changed
pub record Notes (hour : ℕ) (ys ts us : List ℕ) : Type 0 where
  pub room : 2 * hour + 1 < length ts
  pub table : (st : State) → ((r : Result State Refusal) → Answered (Record 0) (record_said r) ys ys → record_said r ≡ Recorded st)
      → us ≡ set (set ts (2 * hour) st.heard) (2 * hour + 1) st.lost

pub record RunsHour (hour : ℕ) (xs os ts : List ℕ) (r : Result Unit UntilError) (ys ps us : List ℕ) : Type 0 where
  pub until : RunsUntil (3600000 * (hour + 1)) 18446744073709551615 xs os r ys ps
  pub notes : r ≡ Ok tt → Notes hour ys ts us

-- the plan is opened and these calls are posted, all accepted, in the buffer xs
pub record Begun (plan : List ℕ) (cs : List Call) (xs : List ℕ) : Type 0 where
  pub before : List ℕ
  pub opened : List ℕ
  pub opening : OpensQuote plan before (Ok tt) opened
  pub posted : AllPosted opened cs xs

-- where a quote has begun in xs, the first h hours are run and noted
pub record HoursAre (h : ℕ) (xs ys ts : List ℕ) : Type 0 where
  pub stands : (plan : List ℕ) (cs : List Call) → Begun plan cs xs → 1 ≤ h → StandsAt plan (3600000 * h) (numbered (line_of plan) 0 cs) ys
  pub hours : (plan : List ℕ) (cs : List Call) → Begun plan cs xs → (k : ℕ) → k < h → HourIs plan (numbered (line_of plan) 0 cs) ts k

-- a run that is not done, after others
pub record HourStopped (hours : ℕ) (u : UntilError) (xs os ys ps : List ℕ) : Type 0 where
  pub hour : ℕ
  pub within : hour < hours
  pub calls : List Made
  pub before : List ℕ
  pub output : List ℕ
  pub works : Works xs os calls before output
  pub reached : 1 ≤ hour → Reaches (3600000 * hour) calls
  pub until : RunsUntil (3600000 * (hour + 1)) 18446744073709551615 before output (Err u) ys ps

pub record RunsHours (hours : ℕ) (xs os : List ℕ) (r : Result Unit UntilError) (ys ps ts : List ℕ) : Type 0 where
  pub done : r ≡ Ok tt → HoursAre hours xs ys ts
  pub stopped : (u : UntilError) → r ≡ Err u → HourStopped hours u xs os ys ps
