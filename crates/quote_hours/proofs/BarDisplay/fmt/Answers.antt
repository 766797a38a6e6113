-- Nothing is written where there is no bar; else the spaces and all the rounds are the bar.
use Rattle.std.proofs.Common.{arith, rules}
use Rattle.std.proofs.Output.{has_written_of_eq}
use Rattle.quote_hours.proofs.Bars.{no_bar, some_bar}
use Rattle.quote_hours.proofs.BarDisplay.fmt.Goals as goal

pub returns-then-self-eq0-clause-writes : goal.returns-then-self-eq0-clause-writes
returns-then-self-eq0-clause-writes g c = λ p ok. has_written_of_eq _ _ _ _ _ (no_bar _ c.if-self-eq0.true) (search rules)

pub returns-clause-writes : goal.returns-clause-writes
returns-clause-writes g c = λ p ok. has_written_of_eq _ _ _ _ _ (some_bar _ _ c.if-self-eq0.false (omega arith)) (c.loop.invariant p)
