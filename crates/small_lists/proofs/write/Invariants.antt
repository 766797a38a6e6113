-- The loop writes one list after the other: the first i stand at the front.
use mathlib.Core.Path.{◌≡◌}
use Rattle.small_lists.proofs.Writing.{front}
use Rattle.small_lists.proofs.write.Given as goal

abbrev pub invariant-loop-i : goal.invariant-loop-i
invariant-loop-i l = l.out ≡ front l.initial.out l.i
