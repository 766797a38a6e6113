-- An event is unrun again (`unmark-made`); where the code does nothing, the node is no event's (`unmark-none`).
use native.Mathlib.Omega.{arith}
use Rattle.engine_index.proofs.Places.Range.{log_in, nodes_in}
use Rattle.engine_index.proofs.Places.FoundSlot.{finds}
use Rattle.engine_index.proofs.Changes.FromCalls.{unmark_made}
use Rattle.engine_index.proofs.Places.Refusals.{found_range, refused_slot, refused_target, unmark_none}
use Rattle.engine_freeing.proofs.unmark.Goals as goal

pub returns-then-t-n : goal.returns-then-t-n
returns-then-t-n c =
    let a = c.args in
    let r = found_range a.n a.c a.b.now a.x (finds c.slot_in-i.ensures) c.if-i-c.true in
    let w =
    unmark_made a.n a.c a.b.now a.x (finds c.slot_in-i.ensures) c.if-i-c.true c.event-e.ensures c.links-o.ensures
    (nodes_in _ _ r.0 r.1 c.nodes-k.ensures) (c.set_number.ensures.0 (omega arith)) (log_in _ _ r.0 r.1 c.log.ensures)
    c.unlink.ensures c.unlink-then-t-n.ensures c.insert_after.ensures in
    record { frame = w.0; unmarks = w.1.0; spares = w.1.1.0; sets = w.1.1.1 }

pub returns-else-t-n : goal.returns-else-t-n
returns-else-t-n c =
    let a = c.args in
    let w =
    unmark_none a.n a.c a.b.now a.x (refused_target a.n a.c a.b.now a.x (finds c.slot_in-i.ensures) c.if-i-c.true c.event-e.ensures c.if-t-n.false) in
    record { frame = w.0; unmarks = w.1.0; spares = w.1.1.0; sets = w.1.1.1 }

pub returns-else-i-c : goal.returns-else-i-c
returns-else-i-c c =
    let a = c.args in
    let w = unmark_none a.n a.c a.b.now a.x (λ _. refused_slot a.n a.c a.b.now a.x (finds c.slot_in-i.ensures) c.if-i-c.false) in
    record { frame = w.0; unmarks = w.1.0; spares = w.1.1.0; sets = w.1.1.1 }
