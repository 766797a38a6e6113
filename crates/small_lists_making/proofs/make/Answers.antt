-- The command of the number is obeyed, or there is none.
use native.Mathlib.Omega.{arith}
use Rattle.small_lists_making.proofs.Making.{makes, makes_none}
use Rattle.small_lists_making.proofs.make.Goals as goal

pub returns-then-number-gt6 : goal.returns-then-number-gt6
returns-then-number-gt6 c = makes_none (omega (arith, c.if-number-gt6.true))

pub returns : goal.returns
returns c =
    makes c.command_of.ensures c.obey.ensures
