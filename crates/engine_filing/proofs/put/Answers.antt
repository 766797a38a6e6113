-- An event takes the first free slot (`put-done`), after the last of its ring or by a walk; where no slot is free, nothing is done (`put-none`).
use native.Mathlib.Omega.{arith}
use Prim.Native.Nat.{◌≤◌}
use Rattle.engine_index.proofs.Changes.FromCalls.{filed_last, put_made}
use Rattle.engine_index.proofs.Places.Range.{nodes_in}
use Rattle.engine_index.proofs.Places.FoundSlot.{finds}
use Rattle.engine_filing.proofs.Putting.{next_at, put_done, put_none}
use Rattle.engine_filing.proofs.put.Goals as goal

-- ---- the event is filed after the last one, or by a walk
pub returns-then-stops : goal.returns-then-stops
returns-then-stops c =
    let range : (c.args.n ≤ 256) × (c.args.c ≤ 4096) = let s = ((finds c.slot_in-spare.ensures).sound c.if-spare-c.true).0 in (s.stations, s.capacity) in
    let a = c.args in
    let free = c.first_free-x.ensures in
    let slot = c.slot_in-spare.ensures in
    let w =
    put_done a.n a.c a.b.now a.e free slot c.if-spare-c.true
    (put_made a.n a.c a.b.now a.e c.links-o.ensures
    (nodes_in _ _ range.0 range.1 c.nodes-k.ensures)
    (next_at a.n a.c a.b.now a.e free slot c.if-spare-c.true c.links-o.ensures) (finds slot) c.if-spare-c.true
    c.unlink.ensures c.set_event.ensures (c.set_number.ensures.0 (omega arith))
    (filed_last _ _ _ _ _ _ _ c.prev-last.ensures c.stops.ensures
    c.if-stops.true c.insert_after.ensures)) in
    record { frame = w.0; puts = w.1.0; spares = w.1.1.0; answer = w.1.1.1.0; none = w.1.1.1.1 }

pub returns-then-spare-c : goal.returns-then-spare-c
returns-then-spare-c c =
    let range : (c.args.n ≤ 256) × (c.args.c ≤ 4096) = let s = ((finds c.slot_in-spare.ensures).sound c.if-spare-c.true).0 in (s.stations, s.capacity) in
    let a = c.args in
    let free = c.first_free-x.ensures in
    let slot = c.slot_in-spare.ensures in
    let w =
    put_done a.n a.c a.b.now a.e free slot c.if-spare-c.true
    (put_made a.n a.c a.b.now a.e c.links-o.ensures
    (nodes_in _ _ range.0 range.1 c.nodes-k.ensures)
    (next_at a.n a.c a.b.now a.e free slot c.if-spare-c.true c.links-o.ensures) (finds slot) c.if-spare-c.true
    c.unlink.ensures c.set_event.ensures (c.set_number.ensures.0 (omega arith)) c.file.ensures) in
    record { frame = w.0; puts = w.1.0; spares = w.1.1.0; answer = w.1.1.1.0; none = w.1.1.1.1 }

-- ---- nothing is done
pub returns : goal.returns
returns c =
    let a = c.args in
    let w = put_none a.n a.c a.b.now a.e c.first_free-x.ensures c.slot_in-spare.ensures c.if-spare-c.false in
    record { frame = w.0; puts = w.1.0; spares = w.1.1.0; answer = w.1.1.1.0; none = w.1.1.1.1 }

pub stops-requires : goal.stops-requires
stops-requires c = ((finds c.slot_in-spare.ensures).sound c.if-spare-c.true).0.stations

pub file-requires : goal.file-requires
file-requires c = ((finds c.slot_in-spare.ensures).sound c.if-spare-c.true).0.stations
