-- Nothing up to the hop delay, then a frame for each period begun.
use native.Mathlib.Omega.{arith}
use Rattle.tariff.proofs.Summing.{none_yet, rounded, share_most}
use Rattle.tariff.proofs.share.Goals as goal

pub returns-then-c-hop : goal.returns-then-c-hop
returns-then-c-hop c = (none_yet _ _ c.if-c-hop.true, omega arith)

pub returns : goal.returns
returns c = (rounded _ _ c.if-c-hop.false, share_most _ _ (omega arith))
