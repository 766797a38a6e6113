-- What number 10 accepts is all that the engine commits (document 02, change 2): no frame that it sends has an origin of N or more, or more than 3
-- repeats.
use Rattle.std.specs.Prelude.{List, ℕ}
use Rattle.line.specs.Matter.{Suits}
use Rattle.line.specs.Order.{All}
use Rattle.rules.specs.Engine.{Setting}
use Rattle.rules.specs.Demand.{Made}
use Rattle.plan_format.specs.Line.{line_of}
use Rattle.engine.specs.Session.{Whole}

-- of every list of calls after an accepted opening: each event of the log that the joined logs are has a matter that number 10 accepts
abbrev pub CommittedMatter : Type 0
CommittedMatter =
    (plan : List ℕ) (setting : Setting) (ms : List Made) (ys : List ℕ) (w : Whole plan setting ms ys)
    → All (λ x. Suits (line_of plan).count x.matter) w.demand.machine.log
