-- The word, where it is at most 4096.
use native.Mathlib.Omega.{arith}
use lib.Dec.{lit<}
use Rattle.engine_promises.proofs.Bounds.{over, within}
use Rattle.engine_promises.proofs.capacity.Goals as goal

pub returns-then-c-gt4096 : goal.returns-then-c-gt4096
returns-then-c-gt4096 c = over 4096 (c.header-c.ensures.0 (lit< tt)) c.if-c-gt4096.true

pub returns : goal.returns
returns c = within 4096 (c.header-c.ensures.0 (lit< tt)) (omega (arith, c.if-c-gt4096.false))
