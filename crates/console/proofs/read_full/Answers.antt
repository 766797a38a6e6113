-- What the read gave stands behind what is there.
use Rattle.std.proofs.Common.{rules, refl}
use Rattle.console.proofs.Taken.{one_read}
use Rattle.console.proofs.read_full.Goals as goal

pub loop-done-preserved : goal.loop-done-preserved
loop-done-preserved g c =
    let (fits, same, taken) = c.loop-done.invariant in
    let read = c.read_some-n in
    (search rules, search rules, one_read c.loop-done.buf read.new.buf _ refl fits read.ensures.counts.0 _ _ _ taken read.ensures.taken)
