-- A buffer of 96 bytes has room for every entry.
use native.Mathlib.Omega.{arith}
use Rattle.bench_printing.proofs.Room.{entry_room, printed}
use Rattle.bench_printing.proofs.print_entry.Goals as goal

pub returns : goal.returns
returns c = printed _ _ _ _ _ (entry_room _ _ c.well_formed.1.1.0) (omega (arith, c.saturating_sub.ensures, c.if-saturating_sub-lt-ROOM.false)) c.fill_entry.ensures
