-- One entry a turn, then the answer.
use Rattle.bench_answers.proofs.Printed.{EntryLines}
use Rattle.bench_answers.proofs.print_answer.Given as goal

abbrev pub invariant-loop-k : goal.invariant-loop-k
invariant-loop-k l = EntryLines l.log l.initial.text l.k l.at l.text
