-- A plan that is not read (`unread`) and numbers that do not pass (`unchosen`) refuse; else stations, header and queue are set (`opened-call`).
use mathlib.Core.Path.{sym}
use native.Mathlib.Omega.{arith}
use lib.Dec.{lit<}
use lib.ListN.{length}
use Rattle.std.proofs.lemmas.Result.{err_from_is_err_and}
use Rattle.engine_opening.proofs.Choice.{passes}
use Rattle.engine_opening.proofs.Opening.{few_stations, unread, unchosen, opened_call}
use Rattle.engine_opening.proofs.open.Goals as goal

-- ---- refusals
pub returns-in_err-n : goal.returns-in_err-n
returns-in_err-n c =
    let p = err_from_is_err_and c.from_residual.result c.from_residual.ensures.1 in
    rw (p.1, p.2) (unread _ c.in_err-n.ensures.answer)

pub returns-in_err-judge_choice : goal.returns-in_err-judge_choice
returns-in_err-judge_choice c =
    let p = err_from_is_err_and c.from_residual-in_err-judge_choice.result c.from_residual-in_err-judge_choice.ensures.1 in
    rw (p.1, p.2) (unchosen _ (sym c.in_ok-n.ensures.answer) c.in_err-judge_choice.ensures)

-- ---- the line is opened
pub judge_choice-requires : goal.judge_choice-requires
judge_choice-requires c = few_stations _ c.in_ok-n.ensures.answer

pub overflow_cast-m : goal.overflow_cast-m
overflow_cast-m c = omega (arith, few_stations _ c.in_ok-n.ensures.answer)

pub begin_stations-requires : goal.begin_stations-requires
begin_stations-requires c = few_stations _ c.in_ok-n.ensures.answer

pub overflow_cast-capacity : goal.overflow_cast-capacity
overflow_cast-capacity c =
    let a = c.args in
    let p = passes c.in_ok-n.n a.arity a.width a.capacity (length a.b.now) (sym c.in_ok-judge_choice.ensures) in
    omega (arith, p.most)

pub returns : goal.returns
returns c =
    opened_call (sym c.in_ok-n.ensures.answer) c.in_ok-judge_choice.ensures c.begin_stations.ensures (c.set_header.ensures.0 (lit< tt))
    (c.set_header-2.ensures.0 (lit< tt)) (c.set_header-3.ensures.0 (lit< tt)) (c.set_header-4.ensures.0 (lit< tt)) c.clear.ensures.frame c.clear.ensures.clears
