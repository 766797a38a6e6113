-- A buffer of 96 bytes has room for every number.
use native.Mathlib.Omega.{arith}
use Rattle.bench_printing.proofs.Room.{no_room, printed}
use Rattle.bench_printing.proofs.print_no.Goals as goal

pub returns : goal.returns
returns c = printed _ _ _ _ _ (no_room _) (omega (arith, c.saturating_sub.ensures, c.if-saturating_sub-lt-ROOM.false)) c.fill_no.ensures
