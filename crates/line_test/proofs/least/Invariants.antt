-- The place so far is one of those passed.
use Rattle.std.proofs.Common.{◌<◌, length, IfSome}
use Rattle.line_test.proofs.least.Given as goal

abbrev pub invariant-loop-i : goal.invariant-loop-i
invariant-loop-i l = IfSome l.best (λ x. x.0 < length l.waiting)
