-- An empty place adds nothing, and the other one its event.
use mathlib.Core.Path.{refl}
use native.Mathlib.Omega.{arith}
use Rattle.engine_events.proofs.AfterHeader.{after_header_same}
use Rattle.engine_running.proofs.add_send.Goals as goal

pub returns-in-None : goal.returns-in-None
returns-in-None c = record { frame = after_header_same c.args.b.now; few = omega arith; adds = rw c.in-None.is (refl, refl, refl) }

pub returns-in-Some : goal.returns-in-Some
returns-in-Some c =
    let add = c.add.ensures in
    record { frame = add.frame; few = add.few; adds = rw c.in-Some.is add.adds }
