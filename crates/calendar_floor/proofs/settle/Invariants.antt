-- Before each turn, the stations below from stand where they belong. The measure is what is left of the 256 stations.
use mathlib.Core.Path.{◌≡◌}
use Prim.Native.Nat.{ℕ, ◌≤◌, ◌-◌}
use lib.ListN.{length}
use Rattle.calendar_floor.proofs.Fetching.{SettledTo}
use Rattle.calendar_floor.proofs.settle.Given as goal

abbrev pub invariant-loop-s : goal.invariant-loop-s
invariant-loop-s l = (l.from ≤ 256) × (length l.b ≡ length l.initial.b) × ((a : ℕ) → SettledTo a l.from l.initial.b l.b)

abbrev pub decreases-loop-s : goal.decreases-loop-s
decreases-loop-s l = 256 - l.from
