-- The first event of the log is written and leaves, so many times. The loop ends where the log has no more events
-- (`writing-stops`), or after that many (`writing-ends`).
use mathlib.Core.Path.{◌≡◌}
use lib.ListN.{length}
use Rattle.engine_events.specs.Promises.{AfterHeader}
use Rattle.engine_committing.proofs.Writing.{Writing}
use Rattle.engine_committing.proofs.write_first.Given as goal

abbrev pub invariant-loop-k : goal.invariant-loop-k
invariant-loop-k l = (length l.out ≡ length l.initial.out) × AfterHeader l.initial.b l.b × Writing l.n l.c l.initial.b l.count l.initial.out l.k l.b l.out
