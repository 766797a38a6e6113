-- The next station moves the pen and the output one step.
use Rattle.std.proofs.Common.{◌≡◌, ◌<◌, length, take, get_or, sym, ap, ◌∙◌, arith}
use Rattle.std.proofs.lemmas.List.{get_or_default}
use lib.Seq.{length-take-le, get_or-take}
use Rattle.plan_format.specs.declared.Station.{Station}
use Rattle.plan_format.specs.Writing.{no_station}
use Rattle.plan_writing.specs.Steps.{stepped}
use Rattle.plan_writing.proofs.WriteDraft.{drafted_zero, drafted_next}
use Rattle.plan_writing.proofs.each.Goals as goal

pub loop-s-init : goal.loop-s-init
loop-s-init c = drafted_zero _ _

pub loop-s-preserved : goal.loop-s-preserved
loop-s-preserved c =
    let ss = c.args.list.now in
    let n = c.args.w.n in
    let k = c.loop-s.s-index in
    let short : length (take n ss) ≡ n = length-take-le n ss c.requires in
    let below : k < n = omega (arith, c.loop-s-test.true, short) in
    drafted_next ss k (record { pen = c.args.w; out = c.args.out.now })
    ∙ ap (stepped (get_or ss k no_station)) c.loop-s.invariant
    ∙ ap (λ (s : Station). stepped s (record { pen = c.loop-s.p; out = c.loop-s.out })) (get_or_default ss k no_station _ (omega arith) ∙ sym (get_or-take n ss k _ below))
    ∙ c.pen_step-p.ensures
