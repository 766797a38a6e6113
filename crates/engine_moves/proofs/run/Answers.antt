-- An event has run (`run-made`); where the code does nothing, the bytes hold no queue or the node is no event's (`run_none`).
use native.Mathlib.Omega.{arith}
use Rattle.engine_moves.proofs.FromCalls.CallsOfChanges.{tell_room}
use Rattle.engine_moves.proofs.FromCalls.NoneHeld.{nowhere_fits, nowhere_slot, nowhere_target}
use Rattle.engine_moves.proofs.FromCalls.Run.{run_size, run_made, run_none}
use Rattle.engine_index.proofs.Places.FoundSlot.{finds}
use Rattle.engine_moves.proofs.run.Goals as goal

-- ---- the event has run
pub tell-requires : goal.tell-requires
tell-requires c =
    tell_room _ _ _ c.fits.ensures c.if-fits.true c.if-t-n.true
    (run_size c.args.n c.args.c c.args.x c.args.after c.args.first c.args.second c.slot_in-i.result c.event-e.result.target c.args.b.now (c.set_number.ensures.0 (omega arith))
    (c.set_number-then-t-n.ensures.0 (omega arith)) c.mark.ensures.frame c.set_state.ensures)

pub returns-then-t-n : goal.returns-then-t-n
returns-then-t-n c =
    let a = c.args in
    let m = c.mark.ensures in
    let t = c.tell.ensures in
    let w =
    run_made a.n a.c a.x a.after a.first a.second c.event-e.result c.state-v.result (omega arith) (omega arith)
    ((finds c.slot_in-i.ensures).sound c.if-i-c.true).1 c.event-e.ensures c.if-t-n.true
    c.state-v.ensures (λ j. omega (arith, c.slice_known-1.given j)) (c.set_number.ensures.0 (omega arith))
    (c.set_number-then-t-n.ensures.0 (omega arith)) (m.frame, (m.marks, m.spares))
    c.set_state.ensures (t.frame, t.tells) in
    record { frame = w.0; runs = w.1 }

-- ---- nothing is done
pub returns-else-t-n : goal.returns-else-t-n
returns-else-t-n c =
    let a = c.args in
    let w =
    run_none a.n a.c a.x a.after a.first a.second a.b.now
    (nowhere_target a.n a.c a.x a.b.now ((finds c.slot_in-i.ensures).sound c.if-i-c.true).1 c.event-e.ensures c.if-t-n.false) in
    record { frame = w.0; runs = w.1 }

pub returns-else-i-c : goal.returns-else-i-c
returns-else-i-c c =
    let a = c.args in
    let w =
    run_none a.n a.c a.x a.after a.first a.second a.b.now (nowhere_slot a.n a.c a.x a.b.now (finds c.slot_in-i.ensures) c.if-i-c.false) in
    record { frame = w.0; runs = w.1 }

pub returns-else-fits : goal.returns-else-fits
returns-else-fits c =
    let a = c.args in
    let w = run_none a.n a.c a.x a.after a.first a.second a.b.now (nowhere_fits a.n a.c a.x a.b.now c.fits.ensures c.if-fits.false) in
    record { frame = w.0; runs = w.1 }
