-- Each turn frees one slot more.
use Rattle.std.proofs.Common.{◌≡◌, length}
use Rattle.engine_index.specs.Steps.{filled}
use Rattle.engine_freeing.proofs.free_slots.Given as goal

abbrev pub invariant-loop-i : goal.invariant-loop-i
invariant-loop-i l = (length l.b ≡ length l.initial.b) × (l.b ≡ filled l.initial.b l.n l.o l.k l.i)
