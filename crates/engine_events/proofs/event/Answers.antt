-- The call's slot is the node's.
use Rattle.engine_events.proofs.event.Goals as goal

pub returns : goal.returns
returns c = rw (c.event.ensures, c.slot.ensures)
