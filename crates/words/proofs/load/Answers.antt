-- The test decides between the plain load and 0.
use mathlib.Core.Path.{sym, ◌∙◌}
use Rattle.words.proofs.Total.{load_in, load_out, test_in, test_out}
use Rattle.words.proofs.load.Goals as goal

pub returns-then-within : goal.returns-then-within
returns-then-within g c =
    c.get.ensures ∙ sym (load_in _ _ _ (test_in g.W.LittleEndian.BYTES _ _ (rw c.BYTES.ensures at c.within.ensures) c.if-within.true))

pub returns-else-within : goal.returns-else-within
returns-else-within g c =
    c.zero.ensures ∙ sym (load_out _ _ _ (test_out g.W.LittleEndian.BYTES _ _ (rw c.BYTES.ensures at c.within.ensures) c.if-within.false))
