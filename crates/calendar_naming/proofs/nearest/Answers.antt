-- Before each turn, best is the nearest of the stations below from that wait. The measure is what is left of the 256 stations.
use native.Mathlib.Omega.{arith}
use Rattle.calendar_naming.proofs.Overflow.{nearer_within, nearest_none, nearest_step, best_within}
use Rattle.calendar_naming.proofs.nearest.Goals as goal

pub loop-s-preserved : goal.loop-s-preserved
loop-s-preserved c =
    let b = c.args.b.now in
    let loop = c.loop-s in
    let s = c.in-Some.s in
    let from = c.in-Some.ensures.from in
    let within = nearer_within b loop.from loop.best s c.nearer.result loop.invariant.0 from.0 c.nearer.ensures in (
      omega (arith, within),
      omega (arith, from.1),
      λ S.
          let L = c.in-Some.ensures.first _ S.table in
          nearest_step _ b loop.from s L.0 L.1 L.2 loop.best c.nearer.result loop.invariant.0 from.0 (loop.invariant.2 S) c.nearer.ensures,
    )

pub returns : goal.returns
returns c =
    let loop = c.loop-s in
    record {
      within = best_within loop.best loop.from loop.invariant.0 loop.invariant.1;
      nearest = λ S. nearest_none _ c.args.b.now loop.from loop.best (loop.invariant.2 S) (c.in_default.ensures.first _ S.table);
    }
