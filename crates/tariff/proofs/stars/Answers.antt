-- Each station below n is tested.
use mathlib.Core.Path.{refl, ◌∙◌}
use native.Mathlib.Omega.{arith}
use borrow.Author.Rules.{rules}
use borrow.Author.Tests.{tests}
use Rattle.std.proofs.lemmas.Iterator.{YieldsList-from_range}
use Rattle.std.proofs.lemmas.Iterator.Search.{all_from_yields_List}
use Rattle.plan_format.specs.Line.{line_of}
use Rattle.plan_format.specs.Plan.{station_at}
use Rattle.tariff.specs.Star.{star_at}
use Rattle.tariff.proofs.Checking.{star_all}
use Rattle.tariff.proofs.stars.Goals as goal

pub returns : goal.returns
unfolding line_of station_at
returns c =
    let config = (line_of c.args.plan.now).config in
    all_from_yields_List (λ s. star_at (config s)) _ _ c.all.result c.all.ensures.ran (YieldsList-from_range 0 c.args.n c.args.n refl (omega arith)) (λ x b q k. search (rules, tests))
    ∙ star_all config c.args.n
