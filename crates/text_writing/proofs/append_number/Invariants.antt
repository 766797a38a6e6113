-- The digits are written from the last to the first (`store`), those that have room (`leave`).
use Rattle.text_writing.proofs.Backward.{Writing}
use Rattle.text_writing.proofs.append_number.Given as goal

abbrev pub invariant-loop-k : goal.invariant-loop-k
invariant-loop-k l = Writing l.v l.n l.at l.initial.out l.rest l.k l.out
