-- The log is the plain machine's, which is fed posts that number 10 accepts.
use Rattle.line.proofs.All.{all_map}
use Rattle.rules.proofs.Calls.LogEvents.{log_events}
use Rattle.plan_format.specs.Line.{line_of}
use Rattle.engine.specs.CommittedMatter.{CommittedMatter}

pub committed_matter : CommittedMatter
committed_matter plan setting ms ys w =
    all_map (λ x e. e.suits) w.demand.machine.log
    (log_events (line_of plan) w.stands.range setting w.calls w.demand.machine w.demand.comes)
