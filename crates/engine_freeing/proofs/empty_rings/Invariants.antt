-- Each turn empties one ring more.
use Rattle.std.proofs.Common.{◌≡◌, length}
use Rattle.engine_index.specs.Steps.{emptied}
use Rattle.engine_freeing.proofs.empty_rings.Given as goal

abbrev pub invariant-loop-s : goal.invariant-loop-s
invariant-loop-s l = (length l.b ≡ length l.initial.b) × (l.b ≡ emptied l.initial.b l.o l.k l.s)
