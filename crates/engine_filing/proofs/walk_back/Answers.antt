-- The walk: what is left of it, from the node reached, is the whole of it.
use Rattle.std.proofs.Common.{arith, ◌≡◌, ◌-◌, ◌+◌, sym, ◌∙◌}
use Rattle.rings.proofs.WalkSteps.{at_none, at_stop, at_step}
use Rattle.engine_filing.proofs.walk_back.Goals as goal

pub returns-then-stops : goal.returns-then-stops
returns-then-stops c = sym (at_stop _ _ _ _ (sym c.stops.ensures ∙ c.if-stops.true)) ∙ c.loop.invariant

pub loop-preserved : goal.loop-preserved
loop-preserved c =
    let turn : c.args.fuel - (c.loop.counter + 1) ≡ c.args.fuel - c.loop.counter - 1 = omega arith in
    rw (turn, c.prev-at.ensures) (sym (at_step _ _ _ _ (omega arith) (sym c.stops.ensures ∙ c.if-stops.false)) ∙ c.loop.invariant)

pub returns : goal.returns
returns c = sym (at_none _ _ _ _ (omega arith)) ∙ c.loop.invariant
