-- Each power of ten is tried in turn.
use Rattle.std.proofs.Common.{◌∙◌, arith}
use Rattle.quote_numbers.proofs.Rounding.{at_first, found, next, last}
use Rattle.quote_numbers.proofs.round_up.Goals as goal

pub loop-power-init : goal.loop-power-init
loop-power-init c = at_first _

pub returns-then-least-power : goal.returns-then-least-power
returns-then-least-power c =
    let t = c.loop-power.invariant in
    let r = c.round_at.ensures in
    record { rounds = r.rounds ∙ found t c.if-least-power.true; within = (omega (arith, t.some, r.within), omega (arith, t.most, r.within)) }

pub loop-power-preserved : goal.loop-power-preserved
loop-power-preserved c = next c.loop-power.invariant c.loop-power-test.true c.if-least-power.false

pub loop-power-smaller : goal.loop-power-smaller
loop-power-smaller c = omega (arith, c.loop-power.invariant.some)

pub round_at-requires-2 : goal.round_at-requires-2
round_at-requires-2 c = omega (arith, c.loop-power.invariant.most)

pub returns : goal.returns
returns c =
    let t = c.loop-power.invariant in
    let r = c.round_at-2.ensures in
    record { rounds = r.rounds ∙ last t c.loop-power-test.false; within = (omega (arith, t.some, r.within), omega (arith, t.most, r.within)) }
