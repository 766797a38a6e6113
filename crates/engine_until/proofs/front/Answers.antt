-- The least unrun time is compared with the time.
use native.Mathlib.Omega.{arith}
use Rattle.engine_until.proofs.TurnLaws.{front_idle, front_before, front_after}
use Rattle.engine_until.proofs.front.Goals as goal

pub returns-in_default : goal.returns-in_default
returns-in_default c = front_idle c.next.ensures c.in_default.is

pub returns-then-next-time : goal.returns-then-next-time
returns-then-next-time c = front_before c.next.ensures c.in-Ok.is (omega arith)

pub returns : goal.returns
returns c = front_after c.next.ensures c.in-Ok.is (omega arith)
