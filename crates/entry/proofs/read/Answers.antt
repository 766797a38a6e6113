-- The fields that were loaded are those of the definition.
use mathlib.Core.Path.{◌∙◌}
use Rattle.entry.specs.Entry.{event_at, matter_or}
use Rattle.entry.proofs.read.Goals as goal

pub returns : goal.returns
unfolding event_at
returns c =
    λ i. record {
      time = c.load.ensures i;
      target = c.load-2.ensures i;
      source = c.load-3.ensures i;
      number = c.load-4.ensures i;
      matter = (c.matter.ensures ∙ (λ j. matter_or (c.load-5.ensures j) (c.load-6.ensures j))) i;
    }
