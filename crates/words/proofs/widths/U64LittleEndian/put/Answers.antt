-- Two halves joined.
use Rattle.words.proofs.Halves.{put_joined}
use Rattle.words.proofs.widths.U64LittleEndian.put.Goals as goal

pub returns : goal.returns
returns c = put_joined 4 4 _ _ _ c.put.ensures c.put-2.ensures
