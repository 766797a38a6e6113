-- A run lowest that is judged as refused is refused; else the calendar's station is run, and the count passed on (`run-done`), or its refusal (`run-refused`).
use Rattle.std.proofs.lemmas.Result.{err_from_is_err_and}
use Rattle.engine_promises.proofs.Refused.{refused_call}
use Rattle.engine_lowest.proofs.LowestCalls.{run_refused, run_done}
use Rattle.engine_lowest.proofs.run_lowest.Goals as goal

pub returns-in_err-n : goal.returns-in_err-n
returns-in_err-n c =
    let p = err_from_is_err_and c.from_residual.result c.from_residual.ensures.1 in
    rw (p.1, p.2) (refused_call _ c.in_err-n.ensures)

pub returns-in_err-ran : goal.returns-in_err-ran
returns-in_err-ran c =
    let p = err_from_is_err_and c.from_residual-in_err-ran.result c.from_residual-in_err-ran.ensures.1 in
    rw (p.1, p.2) (run_refused c.in_ok-n.ensures c.in_err-ran.ensures)

pub returns : goal.returns
returns c = run_done c.in_ok-n.ensures c.in_ok-ran.ensures
