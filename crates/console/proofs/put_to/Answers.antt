-- A write takes the next bytes, or none.
use Rattle.std.proofs.Common.{sym, ◌∙◌}
use native.Mathlib.Omega.{arith}
use Rattle.console.proofs.Written.{count_fits, one_write, no_write}
use Rattle.console.proofs.put_to.Goals as goal
use Rattle.console.proofs.put_to.Goals.{in-Ok, in-Err}

pub returns-then-done-n-clause-whole : goal.returns-then-done-n-clause-whole
returns-then-done-n-clause-whole g c =
    λ has.
    let (_, lt, written) = c.loop.invariant in
    let text = c.args.text.now in
    let all = sym c.if-done-n.true in
    elim c.match-write.branch [
      | in-Ok w ↦ one_write text (all ∙ w.done-is) (omega (arith, lt)) w.in-Ok.ensures.bound _ _ _ written w.in-Ok.ensures.bytes
      | in-Err w ↦ no_write text (all ∙ w.done-is) _ _ _ written w.in-Err.ensures.bytes
    ]

pub loop-preserved : goal.loop-preserved
loop-preserved g c =
    let (has, lt, written) = c.loop.invariant in
    let text = c.args.text.now in
    elim c.match-write.branch [
      | in-Ok w ↦ (
        has,
        omega (arith, count_fits text w.done-is (omega (arith, lt)) w.in-Ok.ensures.bound, c.if-done-n.false),
        one_write text w.done-is (omega (arith, lt)) w.in-Ok.ensures.bound _ _ _ written w.in-Ok.ensures.bytes,
      )
      | in-Err w ↦ (
        has,
        omega (arith, w.done-is, lt),
        no_write text w.done-is _ _ _ written w.in-Err.ensures.bytes,
      )
    ]
