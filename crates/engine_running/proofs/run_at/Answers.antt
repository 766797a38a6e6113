-- A run that is judged as refused is refused (`run-refusal`); else the event is run (`run-accepted`).
use Rattle.std.proofs.lemmas.Result.{err_from_is_err_and}
use Rattle.engine_running.proofs.RunCalls.{run_refusal, run_accepted}
use Rattle.engine_running.proofs.run_at.Goals as goal

pub returns-in_err-node : goal.returns-in_err-node
returns-in_err-node c =
    let p = err_from_is_err_and c.from_residual.result c.from_residual.ensures.1 in
    rw (p.1, p.2) (run_refusal c.in_err-node.ensures)

pub returns : goal.returns
returns c = run_accepted c.in_ok-node.ensures c.run_node-undone.ensures
