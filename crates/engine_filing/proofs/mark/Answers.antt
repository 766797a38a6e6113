-- An event has run; where the code does nothing, the node is no event's.
use mathlib.Core.Path.{◌≡◌, ◌∙◌}
use native.Mathlib.Omega.{arith}
use Prim.Native.Nat.{◌≤◌}
use Rattle.engine_index.proofs.Places.Range.{run_ring_in, log_in, nodes_in}
use Rattle.engine_index.proofs.Places.FoundSlot.{finds}
use Rattle.engine_index.specs.Layout.{run_ring}
use Rattle.engine_index.proofs.Changes.FromCalls.{prev_of_lem, mark_made, filed_last}
use Rattle.engine_index.proofs.Places.Refusals.{found_range, refused_slot, refused_target, mark_none}
use Rattle.engine_filing.proofs.mark.Goals as goal

-- ---- the event is filed in the log after the last one, or by a walk
pub returns-then-stops : goal.returns-then-stops
returns-then-stops c =
    let range : (c.args.n ≤ 256) × (c.args.c ≤ 4096) = found_range _ _ c.args.b.now c.args.x (finds c.slot_in-i.ensures) c.if-i-c.true in
    let ring : c.run_ring.result ≡ run_ring c.args.n c.event-e.result.target = run_ring_in _ c.args.c range.0 _ c.if-t-n.true c.run_ring.ensures in
    let a = c.args in
    let w =
    mark_made a.n a.c a.b.now a.x (finds c.slot_in-i.ensures) c.if-i-c.true a.v c.event-e.ensures
    c.links-o.ensures (nodes_in _ _ range.0 range.1 c.nodes-k.ensures) c.set_saved.ensures
    (c.set_number.ensures.0 (omega arith)) c.unlink.ensures (prev_of_lem _ _ c.prev-a.ensures ring)
    c.insert_after.ensures (log_in _ _ range.0 range.1 c.log-l.ensures)
    (filed_last _ _ _ _ _ _ _ c.prev-last.ensures c.stops.ensures c.if-stops.true c.insert_after-then-stops.ensures) in
    record { frame = w.0; marks = w.1.0; spares = w.1.1 }

pub returns-else-stops : goal.returns-else-stops
returns-else-stops c =
    let range : (c.args.n ≤ 256) × (c.args.c ≤ 4096) = found_range _ _ c.args.b.now c.args.x (finds c.slot_in-i.ensures) c.if-i-c.true in
    let ring : c.run_ring.result ≡ run_ring c.args.n c.event-e.result.target = run_ring_in _ c.args.c range.0 _ c.if-t-n.true c.run_ring.ensures in
    let a = c.args in
    let w =
    mark_made a.n a.c a.b.now a.x (finds c.slot_in-i.ensures) c.if-i-c.true a.v c.event-e.ensures
    c.links-o.ensures (nodes_in _ _ range.0 range.1 c.nodes-k.ensures) c.set_saved.ensures
    (c.set_number.ensures.0 (omega arith)) c.unlink.ensures (prev_of_lem _ _ c.prev-a.ensures ring)
    c.insert_after.ensures (log_in _ _ range.0 range.1 c.log-l.ensures) c.file.ensures in
    record { frame = w.0; marks = w.1.0; spares = w.1.1 }

pub shape_of-b-else-stops : goal.shape_of-b-else-stops
shape_of-b-else-stops c =
    c.file.auto.b ∙ c.insert_after.auto.b ∙ c.unlink.auto.b ∙ c.set_number.auto.b ∙ c.set_saved.auto.b

-- ---- nothing is done
pub returns-else-t-n : goal.returns-else-t-n
returns-else-t-n c =
    let a = c.args in
    let w =
    mark_none a.n a.c a.b.now a.x
    (refused_target a.n a.c a.b.now a.x (finds c.slot_in-i.ensures) c.if-i-c.true c.event-e.ensures c.if-t-n.false) a.v in
    record { frame = w.0; marks = w.1.0; spares = w.1.1 }

pub returns-else-i-c : goal.returns-else-i-c
returns-else-i-c c =
    let a = c.args in
    let w = mark_none a.n a.c a.b.now a.x (λ _. refused_slot a.n a.c a.b.now a.x (finds c.slot_in-i.ensures) c.if-i-c.false) a.v in
    record { frame = w.0; marks = w.1.0; spares = w.1.1 }

pub stops-requires : goal.stops-requires
stops-requires c =
    let range : (c.args.n ≤ 256) × (c.args.c ≤ 4096) = found_range _ _ c.args.b.now c.args.x (finds c.slot_in-i.ensures) c.if-i-c.true in
    (range).0

pub file-requires : goal.file-requires
file-requires c =
    let range : (c.args.n ≤ 256) × (c.args.c ≤ 4096) = found_range _ _ c.args.b.now c.args.x (finds c.slot_in-i.ensures) c.if-i-c.true in
    (range).0
