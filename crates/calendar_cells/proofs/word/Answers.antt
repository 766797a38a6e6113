-- A cell is a number in the bytes.
use Rattle.calendar_cells.specs.Cells.{word_at}
use Rattle.calendar_cells.proofs.word.Goals as goal

pub returns : goal.returns
unfolding word_at
returns c = c.load.ensures
