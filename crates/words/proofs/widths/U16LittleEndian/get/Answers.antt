-- Two bytes are the number of 16 bits that the definition says.
use Rattle.words.proofs.Halves.{load_joined, le_byte}
use Rattle.words.proofs.widths.U16LittleEndian.get.Goals as goal

pub returns : goal.returns
returns c = load_joined 1 1 _ _ (le_byte _ _) (le_byte _ _)
