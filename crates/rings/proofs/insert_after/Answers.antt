-- The four stores link the node in.
use Rattle.rings.proofs.Operations.{insert_made}
use Rattle.rings.proofs.insert_after.Goals as goal

pub returns : goal.returns
returns c =
    insert_made _ _ _ _ _ c.next-c.ensures c.set_next.ensures c.set_prev.ensures c.set_next-2.ensures c.set_prev-2.ensures
