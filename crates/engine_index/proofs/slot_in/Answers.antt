-- The tests are those of a slot's node.
use Rattle.engine_index.proofs.Places.FoundSlot.{found, sentinel, short, out_of_range}
use Rattle.engine_index.proofs.Places.Range.{range_true, nodes_in, log_in}
use Rattle.engine_index.proofs.slot_in.Goals as goal
use Rattle.engine_index.proofs.slot_in.Goals.{else-in_range-via-then-in_range+then-log-nodes+else-n-x, else-in_range-via-then-in_range+else-log-nodes, else-in_range-via-else-in_range}

pub returns-then-n-x : goal.returns-then-n-x
returns-then-n-x c =
    let r = range_true _ _ c.in_range.ensures c.if-in_range.true in
    found _ _ _ _ r.0 r.1 (log_in _ _ r.0 r.1 c.log.ensures) (nodes_in _ _ r.0 r.1 c.nodes.ensures) c.if-log-nodes.true c.if-n-x.true

pub returns : goal.returns
returns c =
    elim c.else-in_range.branch [
      | else-in_range-via-then-in_range+then-log-nodes+else-n-x w ↦
          let r = range_true _ _ c.in_range.ensures w.if-in_range.true in
          sentinel _ _ _ _ r.0 r.1 (log_in _ _ r.0 r.1 w.log.ensures) (nodes_in _ _ r.0 r.1 w.nodes.ensures) w.if-log-nodes.true w.if-n-x.false
      | else-in_range-via-then-in_range+else-log-nodes w ↦
          let r = range_true _ _ c.in_range.ensures w.if-in_range.true in
          short _ _ _ _ r.0 r.1 (log_in _ _ r.0 r.1 w.log.ensures) (nodes_in _ _ r.0 r.1 w.nodes.ensures) w.if-log-nodes.false
      | else-in_range-via-else-in_range w ↦ out_of_range _ _ _ _ c.in_range.ensures w.if-in_range.false
    ]
