-- The length of a name in range.
use Prim.Native.Nat.{◌≤◌}
use mathlib.Core.Path.{◌≡◌}
use mathlib.Core.Bool.{false}
use lib.ListN.{take}
use borrow.Author.Tests.{ltb-false}
use lib.Dec.{ltb}
use Rattle.line.proofs.Fits.{or_false}
use Rattle.plan_format.specs.declared.Station.{Station}
use Rattle.plan_format.specs.Plan.{any_out, name_out}

-- a name in range is at most 16 bytes long
pub name_short : (s : Station) → name_out s ≡ false → s.len ≤ 16
unfolding name_out
name_short s e = ltb-false 16 s.len (or_false (ltb 16 s.len) (any_out (take s.len s.name)) e).0
