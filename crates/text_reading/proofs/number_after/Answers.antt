-- A number stands after a space where one stands after it.
use Rattle.std.proofs.Common.{sym, ◌∙◌}
use borrow.Author.Tests.{ltb-true}
use Rattle.text_reading.proofs.Found.{spaced}
use Rattle.text_reading.proofs.number_after.Goals as goal

pub returns-in-Some-eq32 : goal.returns-in-Some-eq32
returns-in-Some-eq32 c = let h = c.in-Some-eq32.ensures.lookup in spaced _ _ (ltb-true _ _ (sym h.0)) (sym (h.3.1 0) ∙ c.in-Some-eq32.field-0-test) _ c.number_at.ensures
