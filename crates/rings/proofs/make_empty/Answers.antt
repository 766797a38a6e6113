-- The two stores make the empty ring.
use Rattle.rings.proofs.Operations.{empty_made}
use Rattle.rings.proofs.make_empty.Goals as goal

pub returns : goal.returns
returns c =
    empty_made _ _ _ _
    c.set_next.ensures
    c.set_prev.ensures
