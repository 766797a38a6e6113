-- Each way through the code is the rule for one length.
use Rattle.small_lists.proofs.Rows.{of_none, of_one, of_two, of_three}
use Rattle.small_lists.proofs.list_at.Goals as goal

pub returns-then-i-lt1 : goal.returns-then-i-lt1
returns-then-i-lt1 c = of_none _ c.if-i-lt1.true

pub returns-then-i-lt8 : goal.returns-then-i-lt8
returns-then-i-lt8 c = of_one _ c.if-i-lt1.false c.if-i-lt8.true

pub returns-then-i-lt57 : goal.returns-then-i-lt57
returns-then-i-lt57 c = of_two _ c.if-i-lt8.false c.if-i-lt57.true

pub returns : goal.returns
returns c = of_three _ c.if-i-lt57.false c.requires
