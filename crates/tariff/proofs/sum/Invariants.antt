-- The sum over the stations from 1 on that are below s.
use Prim.Native.Nat.{◌*◌, ◌≤◌}
use mathlib.Core.Path.{◌≡◌}
use Rattle.tariff.proofs.Summing.{sum_before}
use Rattle.tariff.proofs.sum.Given as goal

abbrev pub invariant-loop-s : goal.invariant-loop-s
invariant-loop-s l = (1 ≤ l.s) × (l.total ≤ l.s * 1103806595072) × (l.total ≡ sum_before l.plan l.c l.s)
