-- A buffer of 96 bytes has room for every answer.
use native.Mathlib.Omega.{arith}
use Rattle.bench_printing.proofs.Room.{answer_room, printed}
use Rattle.bench_printing.proofs.print.Goals as goal

pub returns : goal.returns
returns c = printed _ _ _ _ _ (answer_room _) (omega (arith, c.saturating_sub.ensures, c.if-saturating_sub-lt-ROOM.false)) c.fill.ensures
