-- The due number stands in the low bits of the station's word.
use mathlib.Core.Path.{ap}
use Prim.Native.Nat.{ℕ, ◌%◌}
use native.Mathlib.Omega.{arith}
use Rattle.calendar_cells.specs.Table.{due_of}
use Rattle.calendar_buckets.proofs.due.Goals as goal

pub returns : goal.returns
unfolding due_of
returns c = (λ l. ap (λ (w : ℕ). w % 2199023255552) c.word.ensures, λ l. absurd (omega arith), omega arith)
