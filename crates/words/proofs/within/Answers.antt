-- Where the sum would wrap it is over every length, and elsewhere the test is the definition's.
use mathlib.Core.Path.{sym}
use Prim.Native.Nat.{◌+◌}
use native.Mathlib.Omega.{arith}
use borrow.Author.Tests.{lt-leb}
use Rattle.words.proofs.within.Goals as goal

pub returns-then-n-at : goal.returns-then-n-at
returns-then-n-at c = let a = c.args in let most = c.ranges.len in let over = c.if-n-at.true in sym (lt-leb (a.at + a.n) a.len (omega arith))
