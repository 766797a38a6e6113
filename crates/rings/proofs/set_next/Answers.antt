-- The test decides between the store and nothing.
use borrow.Author.Tests.{lt-ltb, le-ltb}
use Rattle.rings.specs.Table.{with_next}
use Rattle.rings.proofs.set_next.Goals as goal

pub returns-then-i-n : goal.returns-then-i-n
unfolding with_next
returns-then-i-n c = rw (lt-ltb _ _ c.if-i-n.true) c.store.ensures

pub returns-else-i-n : goal.returns-else-i-n
unfolding with_next
returns-else-i-n c = rw (le-ltb _ _ c.if-i-n.false)
