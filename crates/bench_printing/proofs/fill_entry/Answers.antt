-- The time, then the numbers.
use mathlib.Core.Path.{ap₂}
use mathlib.Core.List.{List, [], ◌∷◌, ◌++◌}
use Prim.Native.Nat.{ℕ}
use Rattle.bench_command.specs.Lines.{entry_line}
use Rattle.line.specs.Matter.{kind_of, value_of}
use Rattle.text.specs.Decimal.{decimal}
use Rattle.text.specs.Spaced.{spaced}
use Rattle.text_writing.proofs.Appending.{appends_join, read_as}
use Rattle.bench_printing.proofs.Appending.{after_word}
use Rattle.bench_printing.proofs.fill_entry.Goals as goal

pub returns : goal.returns
unfolding entry_line
returns c =
    let x = c.args.e in
    let numbers : List ℕ = x.target ∷ kind_of x.matter ∷ x.source ∷ x.number ∷ value_of x.matter ∷ [] in
    let same = ap₂ (λ k v. spaced [] (x.target ∷ k ∷ x.source ∷ x.number ∷ v ∷ []) ++ 10 ∷ []) c.kind_of-kind.ensures c.value_of-value.ensures in
    read_as (after_word (decimal x.time) numbers) (appends_join c.append_number-a.ensures (read_as same c.end_line.ensures))
