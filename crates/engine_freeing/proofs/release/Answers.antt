-- A run event leaves (`release-made`); where the code does nothing, the node is no event's (`release-none`).
use Rattle.engine_index.proofs.Places.Range.{log_in, nodes_in}
use Rattle.engine_index.proofs.Places.FoundSlot.{finds}
use Rattle.engine_index.proofs.Changes.FromCalls.{release_made}
use Rattle.engine_index.proofs.Places.Refusals.{found_range, refused_slot, release_none}
use Rattle.engine_freeing.proofs.release.Goals as goal

pub returns-then-i-c : goal.returns-then-i-c
returns-then-i-c c =
    let a = c.args in
    let r = found_range a.n a.c a.b.now a.x (finds c.slot_in-i.ensures) c.if-i-c.true in
    let w =
    release_made a.n a.c a.b.now a.x (finds c.slot_in-i.ensures) c.if-i-c.true (log_in _ _ r.0 r.1 c.log.ensures)
    (nodes_in _ _ r.0 r.1 c.nodes.ensures) c.unlink.ensures c.free.ensures in
    record { frame = w.0; releases = w.1.0; spares = w.1.1 }

pub returns-else-i-c : goal.returns-else-i-c
returns-else-i-c c =
    let a = c.args in
    let w = release_none a.n a.c a.b.now a.x (refused_slot a.n a.c a.b.now a.x (finds c.slot_in-i.ensures) c.if-i-c.false) in
    record { frame = w.0; releases = w.1.0; spares = w.1.1 }
