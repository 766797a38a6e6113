-- The digits are those of the tenths.
use Rattle.std.proofs.Common.{arith}
use Rattle.std.proofs.Output.{has_written_of_eq}
use Rattle.quote_numbers.proofs.Digits.{tenths_text}
use Rattle.quote_numbers.proofs.TenthsDisplay.fmt.Goals as goal

pub returns-clause-writes : goal.returns-clause-writes
returns-clause-writes g c = λ p ok. has_written_of_eq _ _ _ _ _ (tenths_text _ (omega arith)) (c.write.ensures.writes p ok)
