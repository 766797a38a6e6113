-- By which of the tests holds.
use Rattle.std.proofs.Common.{arith}
use Rattle.quote_numbers.proofs.Rounding.{is_first, is_second, is_third}
use Rattle.quote_numbers.proofs.round_at.Goals as goal

pub returns-then-least-power : goal.returns-then-least-power
returns-then-least-power c = record { rounds = is_first c.if-least-power.true; within = (omega arith, omega arith) }

pub returns-then-least-power-2 : goal.returns-then-least-power-2
returns-then-least-power-2 c = record { rounds = is_second c.if-least-power.false c.if-least-power-2.true; within = (omega arith, omega arith) }

pub returns : goal.returns
returns c = record { rounds = is_third c.if-least-power.false c.if-least-power-2.false; within = (omega arith, omega arith) }
