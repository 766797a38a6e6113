-- Each power of ten is tried in turn.
use Prim.Native.Nat.{◌-◌}
use Rattle.quote_numbers.proofs.Rounding.{Tried}
use Rattle.quote_numbers.proofs.round_up.Given as goal

abbrev pub invariant-loop-power : goal.invariant-loop-power
invariant-loop-power l = Tried l.least l.power

abbrev pub decreases-loop-power : goal.decreases-loop-power
decreases-loop-power l = 1000000000000 - l.power
