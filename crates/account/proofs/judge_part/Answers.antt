-- Each way through the code settles a number.
use mathlib.Core.Path.{sym, ◌∙◌}
use native.Mathlib.Omega.{arith}
use lib.ListN.{length}
use Rattle.account.proofs.Adding.{no_costs}
use Rattle.account.proofs.Answers.{room, judged_space, judged_part, judged_costs}
use Rattle.account.proofs.judge_part.Goals as goal

pub returns-then-space_out : goal.returns-then-space_out
returns-then-space_out c = judged_space _ _ _ _ (rw c.requires no_costs) (sym c.space_out.ensures ∙ c.if-space_out.true)

pub overflow_cast-n : goal.overflow_cast-n
overflow_cast-n c = omega (arith, (room c.args.n (length c.args.b.now) (sym c.space_out.ensures ∙ c.if-space_out.false)).few)

pub returns-then-part_out : goal.returns-then-part_out
returns-then-part_out c =
    judged_part _ _ _ _ (rw c.requires no_costs) (sym c.space_out.ensures ∙ c.if-space_out.false) (sym c.part_out.ensures ∙ c.if-part_out.true)

pub add_costs-requires : goal.add_costs-requires
add_costs-requires c = ((room _ _ (sym c.space_out.ensures ∙ c.if-space_out.false)).few, c.requires)

pub returns : goal.returns
returns c =
    judged_costs _ _ _ (sym c.space_out.ensures ∙ c.if-space_out.false) (sym c.part_out.ensures ∙ c.if-part_out.false) _ _
    (rw (← c.load-reading.ensures, ← c.load-frame.ensures) c.add_costs.ensures)
