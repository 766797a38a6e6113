-- The figure: after an accepted opening, any calls, and a run to a time that is done, each record is the state of the plain machine that is fed those calls
-- and has run every event before the time. Frames of an hour or of a day are the difference of two such records.
use Rattle.std.specs.Prelude.{◌≡◌, List, ℕ, ◌<◌, Result, Ok}
use Rattle.refusal.specs.declared.Refusal.{Refusal}
use Rattle.line.specs.declared.Event.{Event}
use Rattle.line.specs.declared.State.{State}
use Rattle.rules.specs.Machine.{Machine, start, Runs}
use Rattle.rules.specs.Engine.{Record, Recorded}
use Rattle.rules.specs.Demand.{Made, fed}
use Rattle.plan_format.specs.Line.{line_of}
use Rattle.engine_promises.specs.Answers.{record_said}
use Rattle.engine_promises.specs.Promises.{Opens, Answered}
use Rattle.engine.specs.Session.{Chain}
use Rattle.engine_until.specs.Promises.{RunsUntil}

-- what `record` answers of a buffer ys is the state, at the time, of the plain machine that is fed these events
pub record StandsAt (plan : List ℕ) (time : ℕ) (events : List Event) (ys : List ℕ) : Type 0 where
  pub machine : Machine
  pub runs : Runs (line_of plan) time (start (line_of plan) events) machine
  -- it comes to no other state
  pub one : (k : Machine) → Runs (line_of plan) time (start (line_of plan) events) k → k ≡ machine
  pub records : (s : ℕ) → s < (line_of plan).count → (r : Result State Refusal) → Answered (Record s) (record_said r) ys ys
      → record_said r ≡ Recorded (machine.states s)

-- with no retract among the calls, the events that they feed are the accepted posts (`fed`, rules/specs/Demand)
abbrev pub Figure : Type 0
Figure =
    (plan : List ℕ) (arity width capacity time turns : ℕ) (before xs ys zs os ps : List ℕ) (ms : List Made) → Opens plan arity width capacity before (Ok tt) xs
    → Chain xs ms ys
    → RunsUntil time turns ys os (Ok tt) zs ps
    → StandsAt plan time (fed (line_of plan) ms) zs
