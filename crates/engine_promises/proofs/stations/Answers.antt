-- The word, where it is at most 256.
use native.Mathlib.Omega.{arith}
use lib.Dec.{lit<}
use Rattle.engine_promises.proofs.Bounds.{over, within}
use Rattle.engine_promises.proofs.stations.Goals as goal

pub returns-then-n-gt256 : goal.returns-then-n-gt256
returns-then-n-gt256 c = over 256 (c.header-n.ensures.0 (lit< tt)) c.if-n-gt256.true

pub returns : goal.returns
returns c = within 256 (c.header-n.ensures.0 (lit< tt)) (omega (arith, c.if-n-gt256.false))
