-- What is read is taken; where nothing is, the line that has not ended is the last.
use native.Mathlib.Omega.{arith}
use Prim.Native.Nat.{◌<◌}
use mathlib.Core.List.{[]}
use lib.ListN.{take}
use Rattle.std.proofs.lemmas.Result.{MatchResult-from_err}
use Rattle.bench_console.proofs.Feeding.{ends_whole, ends_last, last_stops}
use Rattle.bench_console.proofs.read_some.Goals as goal

pub returns-in_err-answer-clause-fed : goal.returns-in_err-answer-clause-fed
returns-in_err-answer-clause-fed g c =
    let some : 0 < c.args.len = omega (arith, c.if-len-gt0.true) in
    λ xs input C. MatchResult-from_err c.from_residual.result _ _ c.from_residual.ensures.0 (λ _. ([], last_stops (ends_last c.requires.1 some c.answer.ensures C)))

pub returns-in_err-take_all-clause-fed : goal.returns-in_err-take_all-clause-fed
returns-in_err-take_all-clause-fed g c =
    λ xs input C. MatchResult-from_err c.from_residual-in_err-take_all.result _ _ c.from_residual-in_err-take_all.ensures.0
    (λ _. (take c.read_some-n.result c.read_some-n.new.buf, c.in_err-take_all.ensures.fed xs input C))

pub returns-in_ok-answer-clause-fed : goal.returns-in_ok-answer-clause-fed
returns-in_ok-answer-clause-fed g c =
    let some : 0 < c.args.len = omega (arith, c.if-len-gt0.true) in
    λ xs input C. ends_last c.requires.1 some c.answer.ensures C

pub returns-else-len-gt0-clause-fed : goal.returns-else-len-gt0-clause-fed
returns-else-len-gt0-clause-fed g c = λ xs input C. ends_whole c.requires.1 c.if-len-gt0.false C

pub returns-clause-fed : goal.returns-clause-fed
returns-clause-fed g c =
    λ xs input C. record { read = take c.read_some-n.result c.read_some-n.new.buf; console = c.in_ok-take_all.ensures.fed xs input C }
