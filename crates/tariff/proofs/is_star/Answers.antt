-- A refused plan is no star's; of an accepted one every station is tested.
use native.Mathlib.Omega.{arith}
use mathlib.Core.Path.{sym, ◌∙◌}
use Rattle.tariff.proofs.Checking.{judged_no, judged_yes}
use Rattle.tariff.proofs.Summing.{few}
use Rattle.tariff.proofs.is_star.Goals as goal

pub overflow_cast-n : goal.overflow_cast-n
overflow_cast-n c = let m = few _ _ (sym c.judge.ensures.answer ∙ c.in-Ok.is) in record { fits = omega arith }

pub returns-in-Ok : goal.returns-in-Ok
returns-in-Ok c = c.stars.ensures ∙ sym (judged_yes _ _ (sym c.judge.ensures.answer ∙ c.in-Ok.is))

pub returns-in-Err : goal.returns-in-Err
returns-in-Err c = sym (judged_no _ c.judge.ensures.answer c.in-Err.is)
