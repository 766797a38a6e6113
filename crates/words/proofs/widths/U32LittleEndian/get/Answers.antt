-- Two halves joined.
use Rattle.words.proofs.Halves.{load_joined}
use Rattle.words.proofs.widths.U32LittleEndian.get.Goals as goal

pub returns : goal.returns
returns c = load_joined 2 2 _ _ c.get-low.ensures c.get-high.ensures
