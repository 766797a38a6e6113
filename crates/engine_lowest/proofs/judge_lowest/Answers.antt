-- A buffer that is too short, a line with no event and a station out of range are refused, each with its law; else the station is the calendar's.
use borrow.Author.Tests.{not-true}
use Rattle.std.proofs.lemmas.Result.{err_from_is_err_and}
use Rattle.engine_promises.proofs.Refused.{judges_refusal}
use Rattle.engine_promises.proofs.ShortBuffer.{unfit_judged}
use Rattle.engine_lowest.proofs.LowestCalls.{none_lowest, far_lowest, lowest_judged}
use Rattle.engine_lowest.proofs.judge_lowest.Goals as goal

-- ---- refusals
pub returns-then-not-fits : goal.returns-then-not-fits
returns-then-not-fits c =
    judges_refusal _ _ (unfit_judged c.stations-n.ensures c.capacity-c.ensures c.fits.ensures (not-true _ c.if-not-fits.true-raw))

pub returns-in_err-station : goal.returns-in_err-station
returns-in_err-station c =
    let p = err_from_is_err_and c.from_residual.result c.from_residual.ensures.1 in
    rw (p.1, p.2) (none_lowest c.stations-n.ensures c.capacity-c.ensures c.in_err-station.ensures)

pub returns-then-station-gt65535 : goal.returns-then-station-gt65535
returns-then-station-gt65535 c =
    judges_refusal _ _ (far_lowest c.stations-n.ensures c.capacity-c.ensures c.in_ok-station.ensures c.if-station-gt65535.true)

-- ---- accepted
pub returns : goal.returns
returns c = lowest_judged c.stations-n.ensures c.capacity-c.ensures c.in_ok-station.ensures
