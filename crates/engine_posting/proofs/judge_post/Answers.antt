-- The tests are those of the rules, in their order: a refusal has the law of its number, and an accepted post `post-judged`.
use mathlib.Core.Path.{sym}
use native.Mathlib.Omega.{arith}
use borrow.Author.Tests.{not-true}
use Rattle.std.proofs.lemmas.Result.{err_from_is_err_and}
use Rattle.engine_promises.proofs.Refused.{judges_refusal}
use Rattle.engine_promises.proofs.ShortBuffer.{unfit_judged}
use Rattle.engine_posting.proofs.PostJudging.{station_out, matter_refused, time_late, time_early, number_over, none_free, post_judged}
use Rattle.engine_posting.proofs.judge_post.Goals as goal

-- ---- refusals
pub returns-then-not-fits : goal.returns-then-not-fits
returns-then-not-fits c =
    judges_refusal _ _
    (unfit_judged c.stations-n.ensures c.capacity-c.ensures c.fits.ensures (not-true _ c.if-not-fits.true-raw))

pub returns-then-n-station : goal.returns-then-n-station
returns-then-n-station c =
    judges_refusal _ _
    (station_out c.stations-n.ensures c.capacity-c.ensures _ _ _ _ c.if-n-station.true)

pub returns-in_err-matter : goal.returns-in_err-matter
returns-in_err-matter c =
    let p = err_from_is_err_and c.from_residual.result c.from_residual.ensures.1 in
    let r = c.in_err-matter.ensures in
    rw (p.1, p.2) (matter_refused c.stations-n.ensures c.capacity-c.ensures _ _ _ _ c.if-n-station.false r.means r.number)

pub returns-then-time-gt-HORIZON : goal.returns-then-time-gt-HORIZON
returns-then-time-gt-HORIZON c =
    judges_refusal _ _
    (time_late c.stations-n.ensures c.capacity-c.ensures _ _ _ _ c.if-n-station.false _ (sym c.in_ok-matter.ensures.means) c.if-time-gt-HORIZON.true)

pub returns-then-time-header : goal.returns-then-time-header
returns-then-time-header c =
    judges_refusal _ _
    (time_early c.stations-n.ensures c.capacity-c.ensures _ _ _ _ c.if-n-station.false _ (sym c.in_ok-matter.ensures.means) c.if-time-gt-HORIZON.false
    (c.header.ensures.0 (omega arith)) c.if-time-header.true)

pub returns-then-number-gt4294967295 : goal.returns-then-number-gt4294967295
returns-then-number-gt4294967295 c =
    judges_refusal _ _
    (number_over c.stations-n.ensures c.capacity-c.ensures _ _ _ _ c.if-n-station.false _ (sym c.in_ok-matter.ensures.means) c.if-time-gt-HORIZON.false
    (c.header.ensures.0 (omega arith)) c.if-time-header.false (c.header-number.ensures.0 (omega arith)) c.if-number-gt4294967295.true)

pub returns-then-full : goal.returns-then-full
returns-then-full c =
    judges_refusal _ _
    (none_free c.stations-n.ensures c.capacity-c.ensures _ _ _ _ c.if-n-station.false _ (sym c.in_ok-matter.ensures.means) c.if-time-gt-HORIZON.false
    (c.header.ensures.0 (omega arith)) c.if-time-header.false (c.header-number.ensures.0 (omega arith))
    c.if-number-gt4294967295.false (rw c.if-full.true at c.full.ensures))

-- ---- accepted
pub returns : goal.returns
returns c =
    post_judged c.stations-n.ensures c.capacity-c.ensures _ _ _ _ c.if-n-station.false _ (sym c.in_ok-matter.ensures.means) c.if-time-gt-HORIZON.false
    (c.header.ensures.0 (omega arith)) c.if-time-header.false (c.header-number.ensures.0 (omega arith))
    c.if-number-gt4294967295.false (rw c.if-full.false at c.full.ensures)
