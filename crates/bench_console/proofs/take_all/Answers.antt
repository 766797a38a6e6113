-- One byte a turn; the line buffer keeps its length.
use native.Mathlib.Omega.{arith}
use Rattle.std.proofs.lemmas.Result.{MatchResult-from_err}
use Rattle.bench_console.proofs.Feeding.{stops_later}
use Rattle.bench_console.proofs.take_all.Goals as goal

pub returns-in_err-at-clause-fed : goal.returns-in_err-at-clause-fed
returns-in_err-at-clause-fed g c =
    λ xs before C. MatchResult-from_err c.from_residual.result _ _ c.from_residual.ensures.0
    (λ _. stops_later c.args.input.now c.loop-byte.byte-index (omega arith) before (c.in_err-at.ensures.fed xs _ (c.loop-byte.invariant.2 xs before C)))
