-- A line of more than 256 stations removes nothing (`removes-else`); else every target is below n (`removes`).
use native.Mathlib.Omega.{arith}
use Rattle.engine_events.proofs.AfterHeader.{after_header_same}
use Rattle.engine_rollback.proofs.RunCount.{runs_few}
use Rattle.engine_rollback.proofs.FromCalls.{removes, removes_else}
use Rattle.engine_rollback.proofs.remove.Goals as goal

pub returns-then-n-gt256 : goal.returns-then-n-gt256
returns-then-n-gt256 c =
    let a = c.args in
    record { frame = after_header_same a.b.now; few = omega arith; removes = removes_else a.n a.c a.b.now (omega arith) }

pub returns : goal.returns
returns c =
    let a = c.args in
    let u = c.remove_below.ensures in
    record { frame = u.frame; few = omega (arith, u.fewer, runs_few a.n a.b.now a.c); removes = removes a.n a.c a.b.now u.removes }
