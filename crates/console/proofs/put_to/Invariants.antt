-- The front that is counted is written, and it is not all.
use Rattle.std.proofs.Common.{◌≤◌, ◌<◌, take, length}
use Rattle.std.specs.Io.KnownBytes.{Appends}
use Rattle.console.proofs.put_to.Given as goal

abbrev pub invariant-loop : goal.invariant-loop
invariant-loop g l =
    (l.n ≤ length l.text) × (l.done < l.n) × Appends (g.W.Write.contents l.fn.out) (g.W.Write.contents l.out) (take l.done l.text)
