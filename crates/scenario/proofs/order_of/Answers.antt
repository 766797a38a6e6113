-- A line that is no order is refused.
use Rattle.scenario.proofs.Taking.{reads}
use Rattle.scenario.proofs.order_of.Goals as goal

pub returns : goal.returns
returns c = reads _ _ _ c.find_order.ensures c.ok_or.ensures.value
