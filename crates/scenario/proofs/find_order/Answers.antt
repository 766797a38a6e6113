-- The word says which order a line can be, and without one of the three words it is none.
use Rattle.scenario.proofs.Taking.{refuses_words}
use Rattle.scenario.proofs.find_order.Goals as goal

pub days_order-requires : goal.days_order-requires
days_order-requires c = c.begins.ensures.begun c.if-begins.true

pub read_order-requires : goal.read_order-requires
read_order-requires c = c.begins-2.ensures.begun c.if-begins-2.true

pub level_order-requires : goal.level_order-requires
level_order-requires c = c.begins-3.ensures.begun c.if-begins-3.true

pub returns : goal.returns
returns c =
    refuses_words _ (c.begins.ensures.other c.if-begins.false) (c.begins-2.ensures.other c.if-begins-2.false)
    (c.begins-3.ensures.other c.if-begins-3.false)
