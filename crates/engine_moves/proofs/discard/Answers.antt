-- An unrun event leaves (`discard-made`); where the code does nothing, the node is no event's (`discard-none`).
use Rattle.engine_moves.proofs.FromCalls.CallsOfChanges.{tell_room}
use Rattle.engine_moves.proofs.FromCalls.NoneHeld.{nowhere_fits, nowhere_slot, nowhere_target}
use Rattle.engine_moves.proofs.FromCalls.Leave.{discard_made, discard_none}
use Rattle.engine_index.proofs.Places.FoundSlot.{finds}
use Rattle.engine_moves.proofs.discard.Goals as goal

-- ---- the event leaves
pub tell-requires : goal.tell-requires
tell-requires c =
    tell_room _ _ _ c.fits.ensures c.if-fits.true c.if-t-n.true c.drop.ensures.frame.size

pub returns-then-t-n : goal.returns-then-t-n
returns-then-t-n c =
    let a = c.args in
    let d = c.drop.ensures in
    let t = c.tell.ensures in
    let w =
    discard_made a.n a.c a.x c.event-e.result ((finds c.slot_in-i.ensures).sound c.if-i-c.true) c.event-e.ensures
    (d.frame, (d.drops, (d.spares, d.sets))) (t.frame, t.tells) in
    record { frame = w.0; fewer = w.1.0; leaves = w.1.1 }

-- ---- nothing is done
pub returns-else-t-n : goal.returns-else-t-n
returns-else-t-n c =
    let a = c.args in
    let w =
    discard_none a.n a.c a.x a.b.now
    (nowhere_target a.n a.c a.x a.b.now ((finds c.slot_in-i.ensures).sound c.if-i-c.true).1 c.event-e.ensures c.if-t-n.false) in
    record { frame = w.0; fewer = w.1.0; leaves = w.1.1 }

pub returns-else-i-c : goal.returns-else-i-c
returns-else-i-c c =
    let a = c.args in
    let w = discard_none a.n a.c a.x a.b.now (nowhere_slot a.n a.c a.x a.b.now (finds c.slot_in-i.ensures) c.if-i-c.false) in
    record { frame = w.0; fewer = w.1.0; leaves = w.1.1 }

pub returns-else-fits : goal.returns-else-fits
returns-else-fits c =
    let a = c.args in
    let w = discard_none a.n a.c a.x a.b.now (nowhere_fits a.n a.c a.x a.b.now c.fits.ensures c.if-fits.false) in
    record { frame = w.0; fewer = w.1.0; leaves = w.1.1 }
