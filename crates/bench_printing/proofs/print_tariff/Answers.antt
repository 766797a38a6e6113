-- A buffer of 96 bytes has room for every tariff.
use native.Mathlib.Omega.{arith}
use Rattle.bench_printing.proofs.Room.{tariff_room, printed}
use Rattle.bench_printing.proofs.print_tariff.Goals as goal

pub returns : goal.returns
returns c = printed _ _ _ _ _ (tariff_room _) (omega (arith, c.saturating_sub.ensures, c.if-saturating_sub-lt-ROOM.false)) c.fill_tariff.ensures
