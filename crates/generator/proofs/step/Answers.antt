-- A number of 1 to 2147483646 goes by Schrage's cases, any other by the formula.
use borrow.Author.Rules.{rules}
use Rattle.generator.proofs.step.Goals as goal

pub by_cases-next-requires : goal.by_cases-next-requires
by_cases-next-requires c = search rules
