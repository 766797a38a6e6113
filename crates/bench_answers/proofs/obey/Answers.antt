-- The engine is asked, and what it answers is printed.
use Prim.Native.Nat.{◌≤◌}
use native.Mathlib.Omega.{arith}
use lib.ListN.{length}
use Rattle.bench_answers.proofs.Answering.{nothing_done, obeys_in_text}
use Rattle.bench_answers.proofs.obey.Goals as goal

pub returns-then-text-lt-TEXT : goal.returns-then-text-lt-TEXT
returns-then-text-lt-TEXT c = nothing_done _ _ _ (omega (arith, c.if-text-lt-TEXT.true))

pub returns : goal.returns
returns c =
    let room : 6240 ≤ length c.args.text.now = omega (arith, c.if-text-lt-TEXT.false) in
    obeys_in_text room c.ask-r.ensures c.print_answer.ensures
