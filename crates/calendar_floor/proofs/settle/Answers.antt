-- Before each turn, the stations below from stand where they belong. The measure is what is left of the 256 stations.
use native.Mathlib.Omega.{arith}
use borrow.Author.Rules.{rules}
use Rattle.calendar_floor.proofs.Fetching.{settle_start, settle_step, settle_none}
use Rattle.calendar_floor.proofs.settle.Goals as goal

pub loop-s-init : goal.loop-s-init
loop-s-init c = (omega arith, search rules, λ a. settle_start a c.args.b.now)

pub loop-s-preserved : goal.loop-s-preserved
loop-s-preserved c =
    let loop = c.loop-s in (
      omega (arith, c.in-Some.ensures.from.1),
      search rules,
      λ a. settle_step a c.args.b.now loop.b c.fetch.new.b loop.from c.in-Some.s (loop.invariant.2 a) (c.in-Some.ensures.first a) (c.fetch.ensures a),
    )

pub returns : goal.returns
returns c = λ a. settle_none a c.args.b.now c.loop-s.b c.loop-s.from (c.loop-s.invariant.2 a) (c.in_default.ensures.first a)
