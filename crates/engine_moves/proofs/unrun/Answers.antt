-- An event is unrun again (`unrun-made`); where the code does nothing, the buffer does not fit (`unrun-unfit`), or the node is no slot's
-- (`unrun-slotless`), no run event's (`unrun-other`) or at no station (`unrun-stray`).
use native.Mathlib.Omega.{arith}
use Rattle.engine_moves.proofs.FromCalls.CallsOfChanges.{tell_room}
use Rattle.engine_moves.proofs.FromCalls.Unrun.{unrun_size, unrun_made, unrun_unfit, unrun_slotless, unrun_other, unrun_stray}
use Rattle.engine_moves.proofs.unrun.Goals as goal

-- ---- the event is unrun
pub tell-requires : goal.tell-requires
tell-requires c =
    tell_room _ _ _ c.fits.ensures c.if-fits.true c.if-t-n.true
    (unrun_size c.args.n c.args.c c.event-e.result.target c.saved-v.result c.args.b.now c.unmark.ensures.frame c.set_state.ensures)

pub returns-then-t-n : goal.returns-then-t-n
returns-then-t-n c =
    let a = c.args in
    let u = c.unmark.ensures in
    let t = c.tell.ensures in
    let w =
    unrun_made a.n a.c a.x c.event-e.result c.saved-v.result c.fits.ensures c.if-fits.true c.slot_in-i.ensures c.if-i-c.true
    (c.number.ensures.0 (omega arith)) c.if-number-eq-RUN.true c.event-e.ensures c.if-t-n.true
    c.saved-v.ensures (λ j. omega (arith, c.slice_known-1.given j)) (u.frame, (u.unmarks, (u.spares, u.sets)))
    c.set_state.ensures (t.frame, t.tells) in
    record { frame = w.0; none = w.1.0; fewer = w.1.1.0; unruns = w.1.1.1.0; answer = w.1.1.1.1 }

-- ---- nothing is done
pub returns-else-t-n : goal.returns-else-t-n
returns-else-t-n c =
    let a = c.args in
    let w =
    unrun_stray a.n a.c a.x a.b.now c.fits.ensures c.if-fits.true c.slot_in-i.ensures c.if-i-c.true (c.number.ensures.0 (omega arith))
    c.if-number-eq-RUN.true c.event-e.ensures c.if-t-n.false in
    record { frame = w.0; none = w.1.0; fewer = w.1.1.0; unruns = w.1.1.1.0; answer = w.1.1.1.1 }

pub returns-else-number-eq-RUN : goal.returns-else-number-eq-RUN
returns-else-number-eq-RUN c =
    let a = c.args in
    let w =
    unrun_other a.n a.c a.x a.b.now c.fits.ensures c.if-fits.true c.slot_in-i.ensures c.if-i-c.true (c.number.ensures.0 (omega arith))
    c.if-number-eq-RUN.false in
    record { frame = w.0; none = w.1.0; fewer = w.1.1.0; unruns = w.1.1.1.0; answer = w.1.1.1.1 }

pub returns-else-i-c : goal.returns-else-i-c
returns-else-i-c c =
    let a = c.args in
    let w = unrun_slotless a.n a.c a.x a.b.now c.fits.ensures c.if-fits.true c.slot_in-i.ensures c.if-i-c.false in
    record { frame = w.0; none = w.1.0; fewer = w.1.1.0; unruns = w.1.1.1.0; answer = w.1.1.1.1 }

pub returns-else-fits : goal.returns-else-fits
returns-else-fits c =
    let a = c.args in
    let w = unrun_unfit a.n a.c a.x a.b.now c.fits.ensures c.if-fits.false in
    record { frame = w.0; none = w.1.0; fewer = w.1.1.0; unruns = w.1.1.1.0; answer = w.1.1.1.1 }
