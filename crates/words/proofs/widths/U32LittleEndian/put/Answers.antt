-- Two halves joined.
use Rattle.words.proofs.Halves.{put_joined}
use Rattle.words.proofs.widths.U32LittleEndian.put.Goals as goal

pub returns : goal.returns
returns c = put_joined 2 2 _ _ _ c.put.ensures c.put-2.ensures
