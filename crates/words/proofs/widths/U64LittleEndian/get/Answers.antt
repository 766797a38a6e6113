-- Two halves joined.
use Rattle.words.proofs.Halves.{load_joined}
use Rattle.words.proofs.widths.U64LittleEndian.get.Goals as goal

pub returns : goal.returns
returns c = load_joined 4 4 _ _ c.get-low.ensures c.get-high.ensures
