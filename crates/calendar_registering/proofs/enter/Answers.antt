-- The station is put into the bucket of its time.
use mathlib.Core.Path.{refl}
use native.Mathlib.Omega.{arith}
use Rattle.calendar_registering.proofs.Entering.{entered_already, entered_placed}
use Rattle.calendar_registering.proofs.enter.Goals as goal

pub returns-then-due-time : goal.returns-then-due-time
returns-then-due-time c =
    let args = c.args in
    λ S l f. entered_already args.b.now args.s _ S
    (omega (arith, c.due.ensures.0 c.requires.0, c.if-due-time.true))

pub returns : goal.returns
returns c =
    let args = c.args in
    let pre = c.requires in
    let leaf = c.leaf-l in
    let put = c.put in
    λ S l f.
    entered_placed args.b.now put.new.b S put.ensures.kept args.s args.time leaf.result l f (leaf.ensures.leaf _ refl S.header f)
    (put.ensures.placed _ S.table pre.0 (omega arith) (omega arith))
