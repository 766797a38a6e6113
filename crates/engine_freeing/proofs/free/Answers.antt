-- A slot's node goes to the free ring; where the code does nothing, the node is no slot's.
use mathlib.Core.Path.{refl}
use mathlib.Core.Logic.{inr}
use native.Mathlib.Omega.{arith}
use Prim.Native.Nat.{◌≤◌}
use Rattle.engine_index.proofs.Places.Range.{free_ring_in, nodes_in}
use Rattle.engine_index.proofs.Places.FoundSlot.{finds}
use Rattle.engine_index.proofs.Changes.FromCalls.{free_made, link_of}
use Rattle.engine_index.proofs.Places.Refusals.{found_range, refused_slot}
use Rattle.engine_freeing.proofs.free.Goals as goal

pub returns-then-held-c : goal.returns-then-held-c
returns-then-held-c c =
    let range : (c.args.n ≤ 256) × (c.args.c ≤ 4096) = found_range _ _ c.args.b.now c.args.x (finds c.slot_in-held.ensures) c.if-held-c.true in
    let a = c.args in
    let r = range in
    free_made a.n a.c a.b.now a.x (finds c.slot_in-held.ensures) c.if-held-c.true c.links-o.ensures
    (nodes_in _ _ r.0 r.1 c.nodes-k.ensures) (c.set_number.ensures.0 (omega arith)) c.unlink.ensures
    (link_of _ _ _ _ c.insert_after.ensures (free_ring_in _ a.c r.0 c.free_ring.ensures))

pub returns-else-held-c : goal.returns-else-held-c
returns-else-held-c c =
    let a = c.args in
    inr (refused_slot a.n a.c a.b.now a.x (finds c.slot_in-held.ensures) c.if-held-c.false, refl)
