-- A cell is a number in the bytes.
use Rattle.calendar_cells.specs.Cells.{back_at}
use Rattle.calendar_cells.proofs.back.Goals as goal

pub returns : goal.returns
unfolding back_at
returns c = c.load.ensures
