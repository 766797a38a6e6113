-- The numbers that are passed are appended.
use mathlib.Core.Path.{sym, ap, ◌∙◌}
use mathlib.Core.List.{[]}
use lib.ListN.{get_or, take}
use lib.Seq.{take_all}
use Rattle.text.specs.Spaced.{spaced}
use Rattle.text.proofs.Prefixes.{next_byte}
use Rattle.text_writing.proofs.Appending.{nothing, appends_join, read_as}
use Rattle.bench_printing.proofs.Appending.{spaced_more}
use Rattle.bench_printing.proofs.end_line.Goals as goal

pub loop-v-init : goal.loop-v-init
unfolding spaced
loop-v-init c = nothing _ _

pub loop-v-preserved : goal.loop-v-preserved
loop-v-preserved c =
    let i = c.loop-v.v-index in
    let numbers = c.args.numbers.now in
    read_as (sym (ap (spaced []) (next_byte numbers i c.loop-v-test.true) ∙ spaced_more [] (take i numbers) (get_or numbers i 0)))
    (appends_join c.loop-v.invariant c.append_after-end.ensures)

pub returns : goal.returns
returns c =
    appends_join (read_as (ap (spaced []) (take_all c.loop-v.v-index c.args.numbers.now c.loop-v-test.false)) c.loop-v.invariant) c.append_byte.ensures
