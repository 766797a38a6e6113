-- The tests in their order, then the sum.
use native.Mathlib.Omega.{arith}
use mathlib.Core.Path.{sym, ap, ◌∙◌}
use Rattle.std.specs.Prelude.{Ok}
use Rattle.tariff.proofs.Checking.{star_judged}
use Rattle.tariff.proofs.Answering.{too_late, no_star, a_star}
use Rattle.tariff.proofs.at.Goals as goal

pub returns-then-c : goal.returns-then-c
returns-then-c c = too_late _ _ (omega (arith, c.if-c.true))

pub sum-requires : goal.sum-requires
sum-requires c = (star_judged _ (sym c.is_star.ensures ∙ c.if-is_star.true) ∙ ap Ok (sym c.load.ensures), omega (arith, c.if-c.false))

pub returns-then-is_star : goal.returns-then-is_star
returns-then-is_star c = a_star _ _ (omega (arith, c.if-c.false)) (sym c.is_star.ensures ∙ c.if-is_star.true) c.sum.ensures

pub returns : goal.returns
returns c = no_star _ _ (omega (arith, c.if-c.false)) (sym c.is_star.ensures ∙ c.if-is_star.false)
