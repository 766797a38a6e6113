-- The bytes that are passed are appended.
use Rattle.std.proofs.Common.{take}
use Rattle.text_writing.specs.Promises.{Appends}
use Rattle.text_writing.proofs.append_word.Given as goal

abbrev pub invariant-loop-b : goal.invariant-loop-b
invariant-loop-b l = Appends (take l.b-index l.word) l.at l.initial.out l.end l.out
