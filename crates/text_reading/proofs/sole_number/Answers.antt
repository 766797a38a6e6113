-- The number at the front, where it ends the line.
use Rattle.std.proofs.Common.{rules}
use Rattle.text_reading.proofs.Found.{tested}
use Rattle.text_reading.proofs.sole_number.Goals as goal

pub returns : goal.returns
returns c = tested _ _ _ _ _ _ (λ n b h. search rules) c.number_at.ensures c.filter.ensures
