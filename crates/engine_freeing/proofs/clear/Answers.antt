-- Rings are emptied, the slots go into the free ring, and the log is emptied.
use native.Mathlib.Omega.{arith}
use Prim.Native.Nat.{◌≤◌}
use Rattle.engine_freeing.proofs.Clearing.{clear_made, clear_none}
use Rattle.engine_index.proofs.Places.Range.{range_true, log_in, nodes_in, node_in}
use Rattle.engine_freeing.proofs.clear.Goals as goal

pub returns-then-in_range : goal.returns-then-in_range
returns-then-in_range c =
    let a = c.args in
    let r : (c.args.n ≤ 256) × (c.args.c ≤ 4096) = range_true _ _ c.in_range.ensures c.if-in_range.true in
    let w =
    clear_made a.n a.c a.b.now c.links-o.ensures (nodes_in _ _ r.0 r.1 c.nodes-k.ensures)
    (node_in _ _ r.0 r.1 0 (omega arith) c.node_of.ensures) c.empty_rings.ensures
    c.free_slots.ensures (log_in _ _ r.0 r.1 c.log.ensures) c.make_empty.ensures in
    record { frame = w.0; clears = w.1 }

pub returns-else-in_range : goal.returns-else-in_range
returns-else-in_range c =
    let w = clear_none c.args.n c.args.c c.args.b.now c.in_range.ensures c.if-in_range.false in
    record { frame = w.0; clears = w.1 }

pub free_slots-requires : goal.free_slots-requires
free_slots-requires c =
    let range : (c.args.n ≤ 256) × (c.args.c ≤ 4096) = range_true _ _ c.in_range.ensures c.if-in_range.true in
    range
