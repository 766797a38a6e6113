-- A node goes to its event's place: after the node at which the walk ends.
use Rattle.engine_index.proofs.Changes.FromCalls.{filed_made}
use Rattle.engine_filing.proofs.file.Goals as goal

pub returns : goal.returns
returns c =
    let insert-after = c.insert_after in
    let walk_back = c.walk_back-a in
    let prev = c.prev-last in
    filed_made _ _ _ _ _ _ _ prev.ensures walk_back.ensures insert-after.ensures
