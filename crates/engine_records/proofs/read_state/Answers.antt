-- The fields that were loaded are those of the definition.
use mathlib.Core.Bool.{not}
use lib.Dec.{eqb}
use Rattle.engine_records.specs.Records.{state_at}
use Rattle.engine_records.proofs.read_state.Goals as goal

pub returns : goal.returns
unfolding state_at
returns c =
    λ i. record {
      draw = c.load.ensures i;
      level = c.load-2.ensures i;
      heard = c.load-3.ensures i;
      lost = c.load-4.ensures i;
      sent = c.load-5.ensures i;
      last = c.load-6.ensures i;
      reached = not (eqb (c.load-7.ensures i) 0);
    }
