-- The first station in the leaves, or where all leaves are empty the nearest of the overflow table.
use mathlib.Core.Path.{◌≡◌, subst}
use Prim.Native.Nat.{ℕ, ◌<◌}
use native.Mathlib.Omega.{arith}
use borrow.Author.Rules.{rules}
use Rattle.std.specs.Prelude.{Option, Some, None, IfSome, MatchOption}
use Rattle.std.proofs.lemmas.Result.{err_from_is_err_and}
use Rattle.refusal.specs.declared.Refusal.TheVariants.{Idle}
use Rattle.calendar_cells.specs.Table.{arity_of}
use Rattle.calendar_header.specs.Bytes.{Sound}
use Rattle.calendar_buckets.proofs.FirstStation.{match_weaker}
use Rattle.calendar_naming.specs.Steps.{FirstOf, Nearest}
use Rattle.calendar_naming.proofs.Naming.{names_idle}
use Rattle.calendar_naming.proofs.Order.{first_of, at_within}
use Rattle.calendar_naming.proofs.lowest.Goals as goal

pub named-requires : goal.named-requires
named-requires c =
    let b = c.args.b.now in
    let found : MatchOption c.first-f.result.at (IfSome c.or_else-at.result (λ h. h < 256) × (Sound b → Nearest (arity_of b) b 256 c.or_else-at.result))
    (λ h. c.or_else-at.result ≡ Some h) =
    search (rules, match_weaker) in
    let some : c.or_else-at.result ≡ Some c.in_ok-station.station = grind arith in
    (subst (λ (r : Option ℕ). IfSome r (λ h. h < 256)) some (at_within _ _ _ c.first-f.ensures.within.0 found), c.first-f.ensures.within.1)

pub returns : goal.returns
returns c =
    let b = c.args.b.now in
    let found : MatchOption c.first-f.result.at (IfSome c.or_else-at.result (λ h. h < 256) × (Sound b → Nearest (arity_of b) b 256 c.or_else-at.result))
    (λ h. c.or_else-at.result ≡ Some h) =
    search (rules, match_weaker) in
    let some : c.or_else-at.result ≡ Some c.in_ok-station.station = grind arith in
    c.named.ensures
    (λ S. subst (λ (r : Option ℕ). FirstOf (arity_of b) b r c.first-f.result.words) some
    (first_of b S c.word.result _ _ _ c.word.ensures (c.first-f.ensures.first _ S.table) found))

pub returns-in_err-station : goal.returns-in_err-station
returns-in_err-station c =
    let b = c.args.b.now in
    let found : MatchOption c.first-f.result.at (IfSome c.or_else-at.result (λ h. h < 256) × (Sound b → Nearest (arity_of b) b 256 c.or_else-at.result))
    (λ h. c.or_else-at.result ≡ Some h) =
    search (rules, match_weaker) in
    let none : c.or_else-at.result ≡ None = grind arith in
    let idle : c.in_err-station.field-0.0 ≡ Idle = grind arith in
    let p = err_from_is_err_and c.from_residual.result c.from_residual.ensures.1 in
    rw (p.1, p.2, idle)
    (names_idle b c.first-f.result.words (λ S. subst (λ (r : Option ℕ). FirstOf (arity_of b) b r c.first-f.result.words) none
    (first_of b S c.word.result _ _ _ c.word.ensures (c.first-f.ensures.first _ S.table) found)))
