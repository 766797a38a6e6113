-- The calendar takes the new floor (`raised`); where the code does nothing, the bytes hold no queue of this size (`raises-none`).
use Rattle.engine_events.proofs.Fitting.{part_within}
use Rattle.engine_moves.proofs.FloorRaised.{raised, raises_none}
use Rattle.engine_events.proofs.LeastStation.{nothing_fits}
use Rattle.engine_moves.proofs.raise.Goals as goal

pub slice_bounds-advance-start : goal.slice_bounds-advance-start
slice_bounds-advance-start c = part_within _ _ _ c.calendar_start-start.ensures c.fits.ensures c.if-fits.true

pub returns-then-fits : goal.returns-then-fits
returns-then-fits c =
    let a = c.args in
    let w =
    raised a.n a.c a.floor a.b.now _ c.calendar_start-start.ensures (part_within _ _ _ c.calendar_start-start.ensures c.fits.ensures c.if-fits.true)
    c.advance.auto.b c.advance.ensures in
    record { frame = w.0; raises = w.1 }

pub returns-else-fits : goal.returns-else-fits
returns-else-fits c =
    let a = c.args in
    let w = raises_none a.n a.c a.floor a.b.now (nothing_fits _ _ _ c.fits.ensures c.if-fits.false) in
    record { frame = w.0; raises = w.1 }
