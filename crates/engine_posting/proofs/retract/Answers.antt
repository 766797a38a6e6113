-- A refused retract changes nothing; else the post is removed (`retract-done`).
use Rattle.std.proofs.lemmas.Result.{err_from_is_err_and}
use Rattle.engine_promises.proofs.Refused.{refused_call}
use Rattle.engine_posting.proofs.Retracting.{retract_done}
use Rattle.engine_posting.proofs.retract.Goals as goal

pub returns-in_err-n : goal.returns-in_err-n
returns-in_err-n c =
    let p = err_from_is_err_and c.from_residual.result c.from_residual.ensures.1 in
    rw (p.1, p.2) (refused_call _ c.in_err-n.ensures)

pub returns : goal.returns
returns c = retract_done c.in_ok-n.ensures c.remove.ensures.frame c.remove.ensures.removes
