-- A new calendar, and an index with all slots free (`cleared`); where the code does nothing, the bytes have no room (`clears-none`).
use Rattle.engine_events.proofs.Fitting.{part_within}
use Rattle.engine_moves.proofs.Changes.Cleared.{cleared, clears_none}
use Rattle.engine_moves.proofs.clear.Goals as goal

pub slice_bounds-open-start : goal.slice_bounds-open-start
slice_bounds-open-start c = part_within _ _ _ c.calendar_start-start.ensures c.fits.ensures c.if-fits.true

pub returns-then-fits : goal.returns-then-fits
returns-then-fits c =
    let a = c.args in
    let w =
    cleared a.n a.c a.arity a.width a.b.now _ _ c.calendar_start-start.ensures (part_within _ _ _ c.calendar_start-start.ensures c.fits.ensures c.if-fits.true)
    c.«open».auto.b c.«open».ensures c.clear.ensures.frame c.clear.ensures.clears in
    record { frame = w.0; clears = w.1 }

pub returns-else-fits : goal.returns-else-fits
returns-else-fits c =
    let a = c.args in
    let w = clears_none a.n a.c a.arity a.width a.b.now c.fits.ensures c.if-fits.false in
    record { frame = w.0; clears = w.1 }
