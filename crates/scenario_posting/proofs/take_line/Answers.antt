-- A line is an order, or none.
use Rattle.scenario_posting.proofs.OrdersTaken.{line_order}
use Rattle.scenario_posting.proofs.take_line.Goals as goal

pub returns : goal.returns
returns c = line_order c.order_of.ensures c.in_ok-o.was c.take_order.ensures
