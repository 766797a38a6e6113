-- The calendar names the station.
use mathlib.Core.Path.{sym, ◌∙◌}
use Rattle.engine_events.proofs.Fitting.{part_within}
use Rattle.engine_events.proofs.LeastStation.{finds, nothing_fits, finds_none}
use Rattle.engine_events.proofs.lowest.Goals as goal

pub slice_bounds-lowest-start : goal.slice_bounds-lowest-start
slice_bounds-lowest-start c = part_within _ _ _ c.calendar_start-start.ensures c.fits.ensures c.if-fits.true

pub returns-then-fits : goal.returns-then-fits
returns-then-fits c =
    let args = c.args in
    let fit = sym c.fits.ensures ∙ c.if-fits.true in
    finds args.n args.c _ c.calendar_start-start.ensures fit c.lowest.ensures

pub returns : goal.returns
returns c =
    let args = c.args in
    finds_none args.n args.c _ (nothing_fits args.n args.c _ c.fits.ensures c.if-fits.false)
