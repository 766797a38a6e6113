-- The chain tests each byte of the name.
use Rattle.std.proofs.Common.{rules}
use Rattle.std.proofs.lemmas.Iterator.{YieldsList-from_slice}
use Rattle.std.proofs.lemmas.Iterator.Search.{any_from_yields_List}
use borrow.Author.Tests.{tests}
use Rattle.plan_format.specs.Plan.{byte_out, any_out}
use Rattle.plan_format.proofs.any_out.Goals as goal

pub returns : goal.returns
unfolding any_out
returns c = any_from_yields_List byte_out _ _ _ c.any.ensures.ran (YieldsList-from_slice c.args.name.now cc) (λ x b q k. search (rules, tests))
