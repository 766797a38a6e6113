-- A cell is a number in the bytes.
use Rattle.calendar_cells.specs.Cells.{put_word}
use Rattle.calendar_cells.proofs.set_word.Goals as goal

pub returns : goal.returns
unfolding put_word
returns c = c.store.ensures
