-- A cell is a number in the bytes.
use Rattle.calendar_cells.specs.Cells.{put_back}
use Rattle.calendar_cells.proofs.set_back.Goals as goal

pub returns : goal.returns
unfolding put_back
returns c = c.store.ensures
