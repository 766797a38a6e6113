-- What a commit writes: 24 bytes an event, one after the other.
use mathlib.Core.Path.{◌≡◌, refl, sym, ap, ◌∙◌}
use mathlib.Core.List.{List, [], ◌∷◌, ◌++◌, append_assoc}
use Prim.Native.Nat.{ℕ, ◌*◌}
use native.Mathlib.Omega.{arith}
use lib.ListN.{length, take, length-append}
use lib.Seq.{take_at}
use Rattle.words.proofs.Laws.{length_bytes}
use Rattle.line.specs.declared.Event.{Event}
use Rattle.entry.specs.Entry.{entry, entries}

pub entry_length : (x : Event) → length (entry x) ≡ 24
unfolding entry
entry_length x = simp (length-append, length_bytes)

pub entries_length : (l : List Event) → length (entries l) ≡ 24 * length l
unfolding entries
entries_length [] = refl
entries_length (x ∷ l) = omega (arith, length-append (entry x) (entries l), entry_length x, entries_length l)

pub entries_append : (l m : List Event) → entries (l ++ m) ≡ entries l ++ entries m
unfolding entries
entries_append [] m = refl
entries_append (x ∷ l) m = ap (λ b. entry x ++ b) (entries_append l m) ∙ sym (append_assoc (entry x) (entries l) (entries m))

-- the first 24 bytes for each event of a log that is written are the log's entries
pub entries_first : (l : List Event) (rest : List ℕ) → take (24 * length l) (entries l ++ rest) ≡ entries l
entries_first l rest = take_at (entries l) rest (24 * length l) (entries_length l)
