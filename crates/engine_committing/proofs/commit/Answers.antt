-- A commit that is judged as refused is refused (`commit-refusal`); else the front is written, and the header's and the calendar's time are raised
-- (`commit-accepted`).
use native.Mathlib.Omega.{arith}
use Rattle.std.proofs.lemmas.Result.{err_from_is_err_and}
use Rattle.engine_committing.proofs.Committing.{commit_refusal, commit_accepted}
use Rattle.engine_committing.proofs.commit.Goals as goal

pub returns-in_err-n : goal.returns-in_err-n
returns-in_err-n c =
    let p = err_from_is_err_and c.from_residual.result c.from_residual.ensures.1 in
    rw (p.1, p.2) (commit_refusal c.in_err-n.ensures)

pub returns : goal.returns
returns c =
    commit_accepted c.in_ok-n.ensures c.write_first.ensures.frame c.write_first.ensures.writes (c.set_header.ensures.0 (omega arith)) c.raise.ensures.frame
    c.raise.ensures.raises
