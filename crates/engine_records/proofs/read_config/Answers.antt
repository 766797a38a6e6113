-- The fields that were loaded are those of the definition.
use Rattle.engine_records.specs.Records.{stored_config}
use Rattle.engine_records.proofs.read_config.Goals as goal

pub returns : goal.returns
unfolding stored_config
returns c =
    λ i. record {
      parent = c.load.ensures i;
      calm = c.load-2.ensures i;
      spring = c.load-3.ensures i;
      threshold = c.load-4.ensures i;
      hop = c.load-5.ensures i;
      noise = c.load-6.ensures i;
      seed = c.load-7.ensures i;
    }
