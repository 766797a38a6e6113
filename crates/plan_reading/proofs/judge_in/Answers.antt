-- A plan that is accepted is read where the list has room for it.
use Rattle.std.proofs.Common.{◌≡◌, Ok, Err, sym, ◌∙◌}
use Rattle.std.proofs.lemmas.Result.{err_from_is_err_and}
use borrow.Author.Tests.{lt-ltb, le-ltb}
use Rattle.plan_format.specs.Reading.{judging}
use Rattle.plan_format.proofs.Answers.{reading_in}
use Rattle.plan_reading.proofs.Promised.{judges_in}
use Rattle.plan_reading.proofs.judge_in.Goals as goal

pub returns-in_err-n : goal.returns-in_err-n
returns-in_err-n c =
    let q = err_from_is_err_and c.from_residual.result c.from_residual.ensures.1 in
    let refused : judging c.args.plan.now ≡ Err c.in_err-n.field-0.0 = sym c.judge.ensures.answer ∙ c.in_err-n.was in
    rw (q.1, q.2) (judges_in (rw (reading_in, refused)))

pub returns-then-room-n : goal.returns-then-room-n
returns-then-room-n c =
    let accepted : judging c.args.plan.now ≡ Ok c.in_ok-n.n = sym c.judge.ensures.answer ∙ c.in_ok-n.was in
    judges_in (rw (reading_in, accepted, lt-ltb _ _ c.if-room-n.true))

pub returns : goal.returns
returns c =
    let accepted : judging c.args.plan.now ≡ Ok c.in_ok-n.n = sym c.judge.ensures.answer ∙ c.in_ok-n.was in
    judges_in (rw (reading_in, accepted, le-ltb _ _ c.if-room-n.false))
