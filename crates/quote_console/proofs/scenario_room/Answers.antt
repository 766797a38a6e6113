-- As many zeros as the array's type says; by the law, since computing it would walk the whole array.
use mathlib.Core.Path.{sym}
use Prim.Native.Nat.{ℕ}
use lib.ListN.{length-replicate}
use Rattle.quote_console.proofs.scenario_room.Goals as goal

pub returns : goal.returns
returns c = sym (length-replicate {0} {A = ℕ} 65537 0)
