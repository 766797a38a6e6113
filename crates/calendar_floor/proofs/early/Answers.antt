-- The least time decides.
use mathlib.Core.Path.{◌≡◌}
use mathlib.Core.Bool.{false}
use borrow.Author.Rules.{rules}
use lib.Dec.{ltb}
use Rattle.std.specs.Prelude.{MatchResult}
use Rattle.std.proofs.lemmas.Result.{MatchResult-weaker}
use Rattle.calendar_answers.specs.declared.Least.{Least}
use Rattle.calendar_floor.proofs.LeastBefore.{early}
use Rattle.calendar_floor.proofs.early.Goals as goal

pub returns : goal.returns
returns c =
    let h : MatchResult c.lowest.result (λ (a : Least). c.is_ok_and.result ≡ ltb a.time c.args.floor) (λ _. c.is_ok_and.result ≡ false) =
    search (rules, MatchResult-weaker) in
    λ S. early c.args.b.now c.args.floor S _ _ c.lowest.ensures h
