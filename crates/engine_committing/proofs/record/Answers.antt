-- The first of the station's run ring has the state (`first_run`); where there is none, the station itself (`none-run`).
use borrow.Author.Tests.{not-true}
use Rattle.engine_committing.proofs.Recording.{other_station, none_run, first_run_lem}
use Rattle.engine_promises.proofs.ShortBuffer.{unfit_call}
use Rattle.engine_committing.proofs.record.Goals as goal

-- ---- refusals
pub returns-then-not-fits : goal.returns-then-not-fits
returns-then-not-fits c =
    unfit_call c.stations-n.ensures c.capacity-c.ensures c.fits.ensures (not-true _ c.if-not-fits.true-raw)

pub returns-then-n-station : goal.returns-then-n-station
returns-then-n-station c =
    other_station c.stations-n.ensures c.capacity-c.ensures _ c.if-n-station.true

-- ---- the state
pub returns-then-x-eq0 : goal.returns-then-x-eq0
returns-then-x-eq0 c =
    none_run c.stations-n.ensures c.capacity-c.ensures _ c.if-n-station.false c.first_run-x.ensures c.if-x-eq0.true
    c.state.ensures

pub returns : goal.returns
returns c =
    first_run_lem c.stations-n.ensures c.capacity-c.ensures _ c.if-n-station.false c.first_run-x.ensures c.if-x-eq0.false
    c.saved.ensures
