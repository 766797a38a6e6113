-- A buffer that is too short and a line with no event are refused; else the station and its time are the calendar's.
use borrow.Author.Tests.{not-true}
use Rattle.std.proofs.lemmas.Result.{err_from_is_err_and}
use Rattle.engine_lowest.proofs.LowestCalls.{unfit_next, none_next, next_told}
use Rattle.engine_lowest.proofs.next.Goals as goal

pub returns-then-not-fits : goal.returns-then-not-fits
returns-then-not-fits c =
    unfit_next c.stations-n.ensures c.capacity-c.ensures c.fits.ensures (not-true _ c.if-not-fits.true-raw)

pub returns-in_err-station : goal.returns-in_err-station
returns-in_err-station c =
    let p = err_from_is_err_and c.from_residual.result c.from_residual.ensures.1 in
    rw (p.1, p.2) (none_next c.stations-n.ensures c.capacity-c.ensures c.in_err-station.ensures)

pub returns : goal.returns
returns c = next_told c.stations-n.ensures c.capacity-c.ensures c.in_ok-station.ensures
