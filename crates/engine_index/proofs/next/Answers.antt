-- The node after a node: the rings' answer, at the links.
use Rattle.engine_index.proofs.Changes.FromCalls.{looked_up}
use Rattle.engine_index.proofs.next.Goals as goal

pub returns : goal.returns
returns c = looked_up _ _ _ _ c.links.ensures c.next.ensures
