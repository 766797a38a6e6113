-- The word, then the numbers.
use Rattle.text_writing.proofs.Appending.{appends_join, read_as}
use Rattle.bench_printing.proofs.Appending.{after_word}
use Rattle.bench_printing.proofs.fill_line.Goals as goal

pub returns : goal.returns
returns c = read_as (after_word c.args.word.now c.args.numbers.now) (appends_join c.append_word-a.ensures c.end_line.ensures)
