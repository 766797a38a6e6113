-- The digits are written from the last to the first (`store`), those that have room (`leave`).
use Rattle.std.proofs.Common.{arith}
use Rattle.text_writing.proofs.Appending.{no_room}
use Rattle.text_writing.proofs.Backward.{start, store, leave, finish}
use Rattle.text_writing.proofs.append_number.Goals as goal
use Rattle.text_writing.proofs.append_number.Goals.{then-k-room, else-k-room}

pub returns-then-out-at : goal.returns-then-out-at
returns-then-out-at c = no_room _ _ _ c.if-out-at.true

pub loop-k-init : goal.loop-k-init
loop-k-init c = start _ _ _ _ c.width-n.ensures (omega arith)

pub loop-k-preserved : goal.loop-k-preserved
loop-k-preserved c =
    let w = c.loop-k.invariant in
    let size = c.width-n.ensures in
    elim c.if-k-room.branch [
      | then-k-room b ↦ rw b.out-is (store _ _ _ _ size (omega arith) _ _ _ w (omega arith) (omega (arith, b.if-k-room.true)))
      | else-k-room b ↦ rw b.out-is (leave _ _ _ _ size (omega arith) _ _ _ w (omega arith) (omega (arith, b.if-k-room.false)))
    ]

pub returns : goal.returns
returns c = finish _ _ _ _ c.width-n.ensures (omega arith) _ _ _ c.loop-k.invariant (omega arith) _ (omega (arith, c.min.ensures))
