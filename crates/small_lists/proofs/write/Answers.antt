-- The loop writes one list after the other: the first i stand at the front.
use mathlib.Core.Path.{◌≡◌, sym, ap, ◌∙◌}
use native.Mathlib.Omega.{arith}
use Rattle.small_lists.proofs.Answers.{too_short, written}
use Rattle.small_lists.proofs.Writing.{front, front_none, front_all, front_more}
use Rattle.small_lists.proofs.write.Goals as goal

pub returns-then-out-lt1600 : goal.returns-then-out-lt1600
returns-then-out-lt1600 c = too_short _ c.if-out-lt1600.true

pub loop-i-init : goal.loop-i-init
loop-i-init c = front_none _

pub loop-i-preserved : goal.loop-i-preserved
loop-i-preserved c =
    front_more _ _ _ _ _ (omega arith) (c.list_at.ensures ∙ sym c.copy_from_slice.ensures.after) (omega arith) c.loop-i.invariant

pub returns : goal.returns
returns c =
    let out₀ = c.args.out.now in
    let e : c.loop-i.i ≡ 400 = omega arith in
    written out₀ _ c.if-out-lt1600.false (c.loop-i.invariant ∙ ap (front out₀) e ∙ front_all out₀)
