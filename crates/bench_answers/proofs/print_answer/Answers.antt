-- One entry a turn, then the answer.
use mathlib.Core.Path.{◌≡◌}
use Prim.Native.Nat.{◌≤◌}
use native.Mathlib.Omega.{arith}
use Rattle.bench_answers.specs.Steps.{entries_in}
use Rattle.bench_answers.proofs.Printed.{at_most_64, none_yet, one_more, then_answer}
use Rattle.bench_answers.proofs.print_answer.Goals as goal

pub loop-k-init : goal.loop-k-init
loop-k-init c = none_yet _ _

pub loop-k-preserved : goal.loop-k-preserved
loop-k-preserved c =
    let small : c.loop-k.k ≤ 63 = omega (arith, at_most_64 c.args.r, c.entry_count-k-end.ensures, c.loop-k-test.true) in
    one_more _ _ _ _ _ c.requires c.loop-k.invariant small _ c.read.ensures _ _ c.print_entry-at.ensures

pub returns : goal.returns
returns c =
    let all : c.loop-k.k ≡ entries_in c.args.r = omega (arith, c.loop-k.auto.k-end, c.entry_count-k-end.ensures, c.loop-k-test.false) in
    then_answer _ _ _ _ _ c.requires c.loop-k.invariant _ _ _ all c.print.ensures
