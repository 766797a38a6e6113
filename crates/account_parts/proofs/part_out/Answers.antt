-- The entries that are tested are those of the part.
use mathlib.Core.Path.{◌≡◌, ◌∙◌}
use Prim.Native.Nat.{◌%◌}
use native.Mathlib.Omega.{arith}
use borrow.Author.Rules.{rules}
use borrow.Author.Tests.{tests, ne_eqb}
use lib.ListN.{length}
use Rattle.std.proofs.lemmas.Iterator.Search.{any_from_yields_List}
use Rattle.account_parts.specs.Part.{entries_of, entry_out, part_out}
use Rattle.account_parts.proofs.Chunks.{yields_entries, any_is}
use Rattle.account_parts.proofs.part_out.Goals as goal

pub returns-then-part-ne0 : goal.returns-then-part-ne0
unfolding part_out
returns-then-part-ne0 c = rw (ne_eqb (length c.args.part.now % 24) 0 (λ e. omega (arith, c.if-part-ne0.true, e)))

pub returns-else-part-ne0 : goal.returns-else-part-ne0
unfolding part_out
returns-else-part-ne0 c =
    let part = c.args.part.now in
    let whole : length part % 24 ≡ 0 = omega (arith, c.if-part-ne0.false) in
    rw whole
    (any_from_yields_List (entry_out c.args.n) _ _ c.any.result c.any.ensures.ran (yields_entries part c.chunks_exact.ensures.size c.chunks_exact.ensures.rest) (λ x b q k. search (rules, tests))
    ∙ any_is c.args.n (entries_of part))
