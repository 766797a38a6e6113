-- The engine is opened, or the line of its refusal is printed.
use Prim.Native.Nat.{◌≤◌}
use native.Mathlib.Omega.{arith}
use lib.ListN.{length}
use Rattle.bench_answers.proofs.Answering.{nothing_done, opens_done, opens_refused}
use Rattle.bench_answers.proofs.open.Goals as goal

pub returns-then-text-lt-TEXT : goal.returns-then-text-lt-TEXT
returns-then-text-lt-TEXT c = nothing_done _ _ _ (omega (arith, c.if-text-lt-TEXT.true))

pub returns-in-Ok : goal.returns-in-Ok
returns-in-Ok c =
    let room : 6240 ≤ length c.args.text.now = omega (arith, c.if-text-lt-TEXT.false) in
    opens_done room c.«open».ensures c.in-Ok.is

pub returns-in-Err : goal.returns-in-Err
returns-in-Err c =
    let room : 6240 ≤ length c.args.text.now = omega (arith, c.if-text-lt-TEXT.false) in
    opens_refused room c.«open».ensures _ c.in-Err.is c.print.ensures
