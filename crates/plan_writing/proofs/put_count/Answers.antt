-- `put_count` meets its contract: a store at the first station, and nothing at another.
use borrow.Author.Tests.{eq-eqb, ne_eqb}
use Rattle.plan_writing.proofs.WriteStores.{store_sets}
use mathlib.Core.Path.{◌∙◌}
use native.Mathlib.Omega.{arith}
use Rattle.plan_writing.proofs.put_count.Goals as goal

pub returns-then-p-eq0 : goal.returns-then-p-eq0
returns-then-p-eq0 c = simp (eq-eqb _ _ c.if-p-eq0.true) (c.store.ensures ∙ store_sets 2 0 c.args.p.n c.args.out.now (omega arith))

pub returns-else-p-eq0 : goal.returns-else-p-eq0
returns-else-p-eq0 c = simp (ne_eqb _ _ c.if-p-eq0.false)
