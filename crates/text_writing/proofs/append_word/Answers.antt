-- The bytes that are passed are appended.
use Rattle.std.proofs.Common.{sym}
use Rattle.text.proofs.Prefixes.{next_byte}
use Rattle.text_writing.proofs.Appending.{nothing, appends_join, read_as}
use Rattle.text_writing.proofs.append_word.Goals as goal

pub loop-b-init : goal.loop-b-init
loop-b-init c = nothing _ _

pub loop-b-preserved : goal.loop-b-preserved
loop-b-preserved c =
    read_as (sym (next_byte c.args.word.now c.loop-b.b-index c.loop-b-test.true)) (appends_join c.loop-b.invariant c.append_byte-end.ensures)
