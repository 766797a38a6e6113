-- A cell is a number in the bytes.
use Rattle.calendar_cells.specs.Cells.{put_link}
use Rattle.calendar_cells.proofs.set_link.Goals as goal

pub returns : goal.returns
unfolding put_link
returns c = c.store.ensures
