-- By the three tests.
use native.Mathlib.Omega.{arith}
use Rattle.engine_events.proofs.Fitting.{fits_over, fits_many, fits_rest}
use Rattle.engine_events.proofs.fits.Goals as goal

pub returns-then-n-gt256 : goal.returns-then-n-gt256
returns-then-n-gt256 c = fits_over c.args.n c.args.c _ c.if-n-gt256.true

pub returns-then-c-gt4096 : goal.returns-then-c-gt4096
returns-then-c-gt4096 c = fits_many c.args.n c.args.c _ (omega arith) c.if-c-gt4096.true

pub returns : goal.returns
returns c =
    let args = c.args in
    fits_rest args.n args.c _ (omega arith) c.if-c-gt4096.false c.calendar_start.ensures
