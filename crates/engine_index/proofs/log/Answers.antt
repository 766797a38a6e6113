-- The log's links stand after those of the nodes, four bytes each.
use Prim.Native.Nat.{◌+◌, ◌*◌}
use Rattle.engine_index.proofs.log.Goals as goal

pub returns : goal.returns
returns c = λ i. c.links.ensures i + 4 * c.nodes.ensures i
