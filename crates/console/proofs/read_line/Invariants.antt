-- What is read so far is a line, and the buffer keeps its length.
use Rattle.std.proofs.Common.{◌≡◌, length}
use Rattle.console.specs.Promises.{ReadsLine}
use Rattle.console.proofs.read_line.Given as goal

abbrev pub invariant-loop-len : goal.invariant-loop-len
invariant-loop-len g l = ReadsLine l.initial.line l.len l.line × (length l.line ≡ length l.initial.line)
