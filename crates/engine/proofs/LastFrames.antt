-- The machine starts with states that say so, and runs events before the commit time alone.
use mathlib.Core.List.{List}
use Prim.Native.Nat.{ℕ}
use Rattle.line.specs.LastFrame.{LastFrame}
use Rattle.line.specs.Station.{initial}
use Rattle.line.proofs.LastFrame.{run_hears, first_says, run_says}
use Rattle.rules.specs.Machine.{start}
use Rattle.rules.specs.Engine.{Setting}
use Rattle.rules.specs.Demand.{Made, last_commit}
use Rattle.rules.proofs.Machine.States.{states_all}
use Rattle.plan_format.specs.Line.{line_of}
use Rattle.engine.specs.Session.{Whole}
use Rattle.engine.specs.LastFrames.{LastFrames}

each_record : (plan : List ℕ) (setting : Setting) (ms : List Made) (ys : List ℕ) (w : Whole plan setting ms ys) (s : ℕ)
    → LastFrame (last_commit 0 ms) (w.demand.machine.states s)
unfolding start initial
each_record plan setting ms ys w =
    let c = last_commit 0 ms in
    states_all (line_of plan) (LastFrame c) (run_says c (line_of plan)) w.demand.comes (λ s. first_says c ((line_of plan).config s))

pub last_frames : LastFrames
last_frames = record { events = run_hears; records = each_record }
