-- The judgement's refusal, or the costs that it finds, stored.
use Rattle.std.proofs.lemmas.Result.{err_from_is_err_and}
use Rattle.account.proofs.Answers.{room_taken, read_refused, read_done}
use Rattle.account.proofs.read.Goals as goal

pub returns-in_err-judge_part : goal.returns-in_err-judge_part
returns-in_err-judge_part c =
    let p = err_from_is_err_and c.from_residual.result c.from_residual.ensures.1 in
    rw (p.1, p.2) (read_refused _ _ _ _ _ c.judge_part.ensures _ c.in_err-judge_part.was)

pub store_costs-requires : goal.store_costs-requires
store_costs-requires c =
    let judged = c.judge_part.ensures in
    let r = room_taken _ _ _ _ _ judged c.in_ok-judge_part.was in
    (r.long, (r.few, (judged.words, judged.fits c.in_ok-judge_part.was)))

pub returns : goal.returns
returns c = read_done _ _ _ _ _ c.judge_part.ensures c.in_ok-judge_part.was _ c.store_costs.ensures
