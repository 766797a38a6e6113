-- The lines of an answer are those of its count and its log: the bytes behind the log are not printed.
use mathlib.Core.Path.{◌≡◌, refl, sym, ap, ◌∙◌}
use mathlib.Core.Logic.{◌⊎◌, inl, inr}
use mathlib.Core.List.{List, ◌++◌}
use Prim.Native.Nat.{ℕ, zero, suc, ◌+◌, ◌*◌, ◌≤◌, ◌<◌, min}
use native.Mathlib.Omega.{arith}
use lib.ListN.{length, take, length-take}
use lib.Seq.{get_or-take}
use Rattle.words.specs.Le.{le_at, load_at}
use Rattle.words.proofs.Cases.{lt_or}
use Rattle.words.proofs.Total.{load_in, load_out}
use Rattle.entry.specs.Entry.{event_at}
use Rattle.rules.specs.Engine.{Answer, Refused, Posted, Retracted, Ran, RanLowest, Committed, Recorded}
use Rattle.rules.specs.Alike.{trimmed}
use Rattle.bench_command.specs.declared.Output.TheVariants as Out
use Rattle.bench_command.specs.Lines.{output_of}
use Rattle.bench_answers.specs.Shown.{entry_lines, lines_of}

-- ---- a number, and an event, in the first m bytes

le_front : (n i m : ℕ) (xs : List ℕ) → i + n ≤ m → le_at n i (take m xs) ≡ le_at n i xs
unfolding le_at
le_front zero i m xs h = refl
le_front (suc n) i m xs h = rw (le_front n (suc i) m xs (omega arith), get_or-take m xs i 0 (omega arith))

load_front : (n i m : ℕ) (xs : List ℕ) → i + n ≤ m → load_at n i (take m xs) ≡ load_at n i xs
load_front n i m xs h = go (lt_or (length xs) (i + n))
  where
    go : (length xs < i + n) ⊎ (i + n ≤ length xs) → load_at n i (take m xs) ≡ load_at n i xs
    go (inl l) = load_out n i (take m xs) (omega (arith, length-take m xs)) ∙ sym (load_out n i xs l)
    go (inr l) = load_in n i (take m xs) (omega (arith, length-take m xs)) ∙ le_front n i m xs h ∙ sym (load_in n i xs l)

event_front : (i m : ℕ) (xs : List ℕ) → i + 24 ≤ m → event_at i (take m xs) ≡ event_at i xs
unfolding event_at
event_front i m xs h =
    rw (load_front 8 i m xs (omega arith), load_front 2 (i + 16) m xs (omega arith), load_front 2 (i + 18) m xs (omega arith), load_front 4 (i + 8) m xs (omega arith), load_front 4 (i + 20) m xs (omega arith), load_front 4 (i + 12) m xs (omega arith))

-- ---- the lines

entries_front : (k n : ℕ) (output : List ℕ) → k ≤ n → entry_lines k (take (24 * n) output) ≡ entry_lines k output
unfolding entry_lines
entries_front zero n output h = refl
entries_front (suc k) n output h = rw (entries_front k n output (omega arith), event_front (24 * k) (24 * n) output (omega arith))

lines_trimmed : (a : Answer) → lines_of (trimmed a) ≡ lines_of a
unfolding lines_of trimmed
lines_trimmed (Refused n) = refl
lines_trimmed (Posted number undone) = refl
lines_trimmed (Retracted undone) = refl
lines_trimmed (Ran station undone) = refl
lines_trimmed (RanLowest station undone words) = refl
lines_trimmed (Committed count output) = ap (λ ls. ls ++ output_of (Out.Commit count)) (entries_front (min count 64) count output (omega arith))
lines_trimmed (Recorded state) = refl

pub same_lines : (a b : Answer) → trimmed a ≡ trimmed b → lines_of a ≡ lines_of b
same_lines a b e = sym (lines_trimmed a) ∙ ap lines_of e ∙ lines_trimmed b
