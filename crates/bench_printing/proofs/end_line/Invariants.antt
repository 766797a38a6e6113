-- The numbers that are passed are appended.
use mathlib.Core.List.{[]}
use lib.ListN.{take}
use Rattle.text.specs.Spaced.{spaced}
use Rattle.text_writing.specs.Promises.{Appends}
use Rattle.bench_printing.proofs.end_line.Given as goal

abbrev pub invariant-loop-v : goal.invariant-loop-v
invariant-loop-v l = Appends (spaced [] (take l.v-index l.numbers)) l.at l.initial.out l.end l.out
