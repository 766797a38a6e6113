-- Each station from 1 on that is below s reads at 0.
use Rattle.std.proofs.Common.{arith}
use Rattle.quote_setup.proofs.ReadingsPosted.{none_read, one_read, not_read, all_read}
use Rattle.quote_setup.proofs.read_each.Goals as goal

pub loop-s-init : goal.loop-s-init
loop-s-init c = (omega arith, none_read)

pub loop-s-preserved : goal.loop-s-preserved
loop-s-preserved c = let l = c.loop-s in (omega arith, one_read c.post.result l.s (omega arith) l.invariant.1 c.post.ensures c.in_ok-post.was)

pub returns : goal.returns
returns c = all_read {s = c.loop-s.s} (omega arith) c.loop-s.invariant.0 c.loop-s.invariant.1
