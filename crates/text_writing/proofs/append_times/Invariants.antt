-- As often as the loop has turned, the byte is appended.
use Rattle.std.proofs.Common.{replicate}
use Rattle.text_writing.specs.Promises.{Appends}
use Rattle.text_writing.proofs.append_times.Given as goal

abbrev pub invariant-loop : goal.invariant-loop
invariant-loop l = Appends (replicate l.counter l.byte) l.at l.initial.out l.end l.out
