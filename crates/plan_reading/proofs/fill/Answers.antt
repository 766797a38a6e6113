-- The records before k are the plan's first k stations, and the others stand as they did.
use Rattle.std.proofs.Common.{◌≡◌, ◌<◌, length, ap, sym, ◌∙◌, arith}
use Rattle.plan_format.specs.Plan.{pair_wrong}
use Rattle.plan_format.proofs.Lows.{lowest_none}
use Rattle.plan_reading.proofs.Filled.{filled, filled_is, filled_zero, filled_next}
use Rattle.plan_reading.proofs.fill.Goals as goal

pub loop-k-init : goal.loop-k-init
loop-k-init c = sym (filled_zero c.args.plan.now c.args.stations.now)

pub station_at-requires : goal.station_at-requires
station_at-requires c = (omega arith, lowest_none (pair_wrong c.args.plan.now) c.args.n c.loop-k.k c.requires.1.1 c.loop-k-test.true)

pub loop-k-preserved : goal.loop-k-preserved
loop-k-preserved c =
    let p = c.args.plan.now in
    let ys = c.args.stations.now in
    let k = c.loop-k.k in
    let within : k < length ys = omega arith in
    let e = c.station_at.ensures in
    rw (e, c.loop-k.invariant) (sym (filled_next p k ys within))

pub returns : goal.returns
returns c =
    let e : c.loop-k.k ≡ c.args.n = omega arith in
    c.loop-k.invariant ∙ ap (λ k. filled c.args.plan.now k c.args.stations.now) e ∙ filled_is c.args.plan.now c.args.n c.args.stations.now
