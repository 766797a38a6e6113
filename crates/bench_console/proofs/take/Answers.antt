-- Byte 10 ends the line; any other is put after it where there is room.
use Rattle.std.proofs.lemmas.Result.{MatchResult-from_err}
use Rattle.bench_console.proofs.Feeding.{feed_end, feed_byte, feed_over, stops}
use Rattle.bench_console.proofs.take.Goals as goal

pub returns-in_err-answer-clause-fed : goal.returns-in_err-answer-clause-fed
returns-in_err-answer-clause-fed g c =
    λ xs input C. MatchResult-from_err c.from_residual.result _ _ c.from_residual.ensures.0
    (λ _. stops input c.args.byte (feed_end c.if-byte-eq10.true c.requires.1 c.answer.ensures C))

pub returns-then-byte-eq10-clause-fed : goal.returns-then-byte-eq10-clause-fed
returns-then-byte-eq10-clause-fed g c =
    λ xs input C. feed_end c.if-byte-eq10.true c.requires.1 c.answer.ensures C

pub returns-then-len-line-clause-fed : goal.returns-then-len-line-clause-fed
returns-then-len-line-clause-fed g c =
    λ xs input C. feed_byte c.if-byte-eq10.false C c.if-len-line.true

pub returns-clause-fed : goal.returns-clause-fed
returns-clause-fed g c = λ xs input C. feed_over c.if-byte-eq10.false C c.if-len-line.false
