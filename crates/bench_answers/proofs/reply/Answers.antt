-- A line is a command's, or 8.
use Prim.Native.Nat.{◌≤◌}
use native.Mathlib.Omega.{arith}
use lib.ListN.{length}
use Rattle.bench_answers.proofs.Answering.{nothing_done, replies, replies_8}
use Rattle.bench_answers.proofs.reply.Goals as goal

pub returns-then-text-lt-TEXT : goal.returns-then-text-lt-TEXT
returns-then-text-lt-TEXT c = nothing_done _ _ _ (omega (arith, c.if-text-lt-TEXT.true))

pub returns-in-Ok : goal.returns-in-Ok
returns-in-Ok c =
    let room : 6240 ≤ length c.args.text.now = omega (arith, c.if-text-lt-TEXT.false) in
    replies room c.parse.ensures _ c.in-Ok.is c.obey.ensures

pub returns-in-Err : goal.returns-in-Err
returns-in-Err c =
    let room : 6240 ≤ length c.args.text.now = omega (arith, c.if-text-lt-TEXT.false) in
    replies_8 room c.parse.ensures _ c.in-Err.is c.print.ensures
