-- A cell is a number in the bytes.
use Rattle.calendar_cells.specs.Cells.{link_at}
use Rattle.calendar_cells.proofs.link.Goals as goal

pub returns : goal.returns
unfolding link_at
returns c = c.load.ensures
