-- An event is held (`hold-made`); where the code does nothing, the bytes hold no queue (`hold-unfit`, `hold-slotless`) or the event is at no station
-- (`hold-outside`).
use Rattle.engine_moves.proofs.FromCalls.CallsOfChanges.{tell_room}
use Rattle.engine_moves.proofs.FromCalls.Hold.{hold_made, hold_unfit, hold_outside, hold_slotless}
use Rattle.engine_moves.proofs.hold.Goals as goal

pub tell-requires : goal.tell-requires
tell-requires c =
    tell_room _ _ _ c.fits.ensures c.if-fits.true c.if-t-n.true c.put-x.ensures.frame.size

pub returns-then-c-gt0 : goal.returns-then-c-gt0
returns-then-c-gt0 c =
    let a = c.args in
    let i = c.put-x.ensures in
    let t = c.tell.ensures in
    let w =
    hold_made a.n a.c a.e a.b.now c.put-x.result c.fits.ensures c.if-fits.true c.if-t-n.true
    (i.frame, (i.puts, (i.spares, (i.answer, i.none)))) (t.frame, t.tells) in
    record { frame = w.0; takes = w.1.0; answer = w.1.1 }

pub returns-else-c-gt0 : goal.returns-else-c-gt0
returns-else-c-gt0 c =
    let a = c.args in
    let w = hold_slotless a.n a.c a.e a.b.now c.if-c-gt0.false in
    record { frame = w.0; takes = w.1.0; answer = w.1.1 }

pub returns-else-t-n : goal.returns-else-t-n
returns-else-t-n c =
    let a = c.args in
    let w = hold_outside a.n a.c a.e a.b.now c.fits.ensures c.if-fits.true c.if-t-n.false in
    record { frame = w.0; takes = w.1.0; answer = w.1.1 }

pub returns-else-fits : goal.returns-else-fits
returns-else-fits c =
    let a = c.args in
    let w = hold_unfit a.n a.c a.e a.b.now c.fits.ensures c.if-fits.false in
    record { frame = w.0; takes = w.1.0; answer = w.1.1 }
