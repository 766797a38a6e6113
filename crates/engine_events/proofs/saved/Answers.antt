-- The call's slot is the node's.
use Rattle.engine_events.proofs.saved.Goals as goal

pub returns : goal.returns
returns c = rw (c.saved.ensures, c.slot.ensures)
