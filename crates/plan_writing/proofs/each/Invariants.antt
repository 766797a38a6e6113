-- The pen and the output are those after the stations so far.
use Rattle.std.proofs.Common.{◌≡◌}
use Rattle.plan_writing.specs.Steps.{drafted}
use Rattle.plan_writing.proofs.each.Given as goal

abbrev pub invariant-loop-s : goal.invariant-loop-s
invariant-loop-s l = drafted l.list l.s-index (record { pen = l.fn.w; out = l.initial.out }) ≡ record { pen = l.p; out = l.out }
