-- The call's slot is the node's.
use mathlib.Core.Path.{refl}
use native.Mathlib.Omega.{arith}
use Rattle.engine_events.proofs.SendNumbers.{number_at}
use Rattle.engine_events.proofs.first_send.Goals as goal

pub returns : goal.returns
returns c =
    let args = c.args in
    number_at args.n args.x 0 56 _ c.slot.ensures (c.number.ensures.0 (omega arith)) refl
