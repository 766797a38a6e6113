-- The sends are added and the event is run (`node-run`).
use native.Mathlib.Omega.{arith}
use Rattle.engine_events.proofs.AfterHeader.{after_header_on}
use Rattle.engine_running.proofs.RunCalls.{node_run}
use Rattle.engine_running.proofs.run_node.Goals as goal

pub overflow_add-result : goal.overflow_add-result
overflow_add-result c = omega (arith, c.add_send-first.ensures.few, c.add_send-second.ensures.few)

pub returns : goal.returns
returns c =
    node_run _ _ _ _ _ (λ j. omega (arith, c.slice_known-1.given j)) _ _ _ _ _ _ _ c.add_send-first.ensures.adds c.add_send-second.ensures.adds c.run.ensures.runs
    (after_header_on c.add_send-first.ensures.frame (after_header_on c.add_send-second.ensures.frame c.run.ensures.frame))
