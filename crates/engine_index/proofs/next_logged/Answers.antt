-- The node after a node in the log: the rings' answer, at the log.
use Rattle.engine_index.proofs.Places.Range.{next_in_range, next_out_of_range}
use Rattle.engine_index.proofs.next_logged.Goals as goal

pub returns-then-in_range : goal.returns-then-in_range
returns-then-in_range c =
    next_in_range _ _ _ _ c.in_range.ensures c.if-in_range.true c.log.ensures c.next.ensures

pub returns : goal.returns
returns c = next_out_of_range _ _ _ _ c.in_range.ensures c.if-in_range.false
