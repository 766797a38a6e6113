-- The two stores bridge the node.
use Rattle.rings.proofs.Operations.{unlink_made}
use Rattle.rings.proofs.unlink.Goals as goal

pub returns : goal.returns
returns c =
    unlink_made _ _ _ _
    c.prev-p.ensures
    c.next-q.ensures
    c.set_next.ensures
    c.set_prev.ensures
