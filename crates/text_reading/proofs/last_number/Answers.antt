-- The number after a space, where it ends the line.
use Rattle.std.proofs.Common.{rules}
use Rattle.text_reading.proofs.Found.{tested}
use Rattle.text_reading.proofs.last_number.Goals as goal

pub returns : goal.returns
returns c = tested _ _ _ _ _ _ (λ n b h. search rules) c.number_after.ensures c.filter.ensures
