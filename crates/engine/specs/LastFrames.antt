-- What the last frame heard is held to (document 02, change 7).
use Rattle.std.specs.Prelude.{List, ℕ}
use Rattle.line.specs.declared.Event.{Event}
use Rattle.line.specs.declared.State.{State}
use Rattle.line.specs.LastFrame.{Hears, LastFrame}
use Rattle.line.specs.Station.{Plan, run_event}
use Rattle.rules.specs.Engine.{Setting}
use Rattle.rules.specs.Demand.{Made, last_commit}
use Rattle.engine.specs.Session.{Whole}

pub record LastFrames : Type 0 where
  -- of every event that the engine or the plain machine runs, from any state: where heard rises, the two are the event's time and yes; else they stay
  pub events : (p : Plan) (st : State) (x : Event) → Hears x.time st (run_event p st x).after
  -- of every list of calls after an accepted opening: each state of the machine, which a station's record is (`records-then` of `Whole`), has no and 0
  -- where its heard is 0, else yes and a time before the commit time
  pub records : (plan : List ℕ) (setting : Setting) (ms : List Made) (ys : List ℕ) (w : Whole plan setting ms ys) (s : ℕ)
      → LastFrame (last_commit 0 ms) (w.demand.machine.states s)
