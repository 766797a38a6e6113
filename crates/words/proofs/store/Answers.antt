-- The test decides between the plain store and no change.
use mathlib.Core.Path.{sym, ◌∙◌}
use Rattle.words.proofs.Total.{store_in, store_out, test_in, test_out}
use Rattle.words.proofs.store.Goals as goal

pub returns-then-within : goal.returns-then-within
returns-then-within g c =
    c.put.ensures ∙ sym (store_in _ _ _ _ (test_in g.W.LittleEndian.BYTES _ _ (rw c.BYTES.ensures at c.within.ensures) c.if-within.true))

pub returns-else-within : goal.returns-else-within
returns-else-within g c =
    sym (store_out _ _ _ _ (test_out g.W.LittleEndian.BYTES _ _ (rw c.BYTES.ensures at c.within.ensures) c.if-within.false))
