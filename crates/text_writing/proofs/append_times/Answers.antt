-- As often as the loop has turned, the byte is appended.
use lib.ListN.{replicate-append-replicate}
use Rattle.text_writing.proofs.Appending.{nothing, appends_join, read_as}
use Rattle.text_writing.proofs.append_times.Goals as goal

pub loop-init : goal.loop-init
loop-init c = nothing _ _

pub loop-preserved : goal.loop-preserved
loop-preserved c = read_as (replicate-append-replicate c.loop.counter 1 c.args.byte) (appends_join c.loop.invariant c.append_byte-end.ensures)
