-- Where nothing is to be undone the bytes stay, and else undo_from has done it.
use native.Mathlib.Omega.{arith}
use Rattle.engine_events.proofs.AfterHeader.{after_header_same}
use Rattle.engine_rollback.proofs.roll_back.Goals as goal

pub returns-then-settled : goal.returns-then-settled
returns-then-settled c = record { frame = after_header_same c.args.b.now; fewer = omega arith; undoes = c.settled.ensures c.if-settled.true }

pub returns : goal.returns
returns c = let u = c.undo_from.ensures in record { frame = u.frame; fewer = u.fewer; undoes = u.undoes }
