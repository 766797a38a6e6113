-- The word and the number.
use Rattle.bench_command.specs.Lines.{no_line}
use Rattle.bench_printing.proofs.fill_no.Goals as goal

pub returns : goal.returns
unfolding no_line
returns c = c.fill_line.ensures
