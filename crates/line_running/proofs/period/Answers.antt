-- The level is compared with the threshold as the definition does.
use native.Mathlib.Omega.{arith}
use borrow.Author.Tests.{le-leb, lt-leb}
use Rattle.line.specs.Station.{period}
use Rattle.line_running.proofs.period.Goals as goal

pub returns-then-c-s : goal.returns-then-c-s
unfolding period
returns-then-c-s c = let a = c.args in rw (le-leb a.c.threshold a.s.level (omega arith))

pub returns-else-c-s : goal.returns-else-c-s
unfolding period
returns-else-c-s c = let a = c.args in rw (lt-leb a.c.threshold a.s.level (omega arith))
