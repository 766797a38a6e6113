-- A part of a log, entry by entry, and number 19 (document 02, change 1).
use Rattle.std.specs.Prelude.{ℕ, zero, suc, ◌+◌, ◌*◌, ◌/◌, ◌%◌, Bool, false, not, ◌||◌, List, [], ◌∷◌, ◌++◌, eqb, ltb, length}
use Rattle.words.specs.Le.{load_at}
use Rattle.refusal.specs.Tests.{station_out, time_late}
use Rattle.line.specs.Event.{posted}
use Rattle.line.specs.Matter.{matter_of, unsuited}

-- ---- entries

-- what is read of an entry's 24 bytes: "time 8, number 4, value 4, target 2, source 2, kind 4" (document 01, "Engine calls"). The number costs nothing, and
-- 19 does not name it
pub record LogEntry : Type 0 where
  pub time : ℕ
  pub value : ℕ
  pub target : ℕ
  pub source : ℕ
  pub kind : ℕ

unfoldable pub entry_at : ℕ → List ℕ → LogEntry
entry_at at xs = record {
  time = load_at 8 at xs;
  value = load_at 4 (at + 12) xs;
  target = load_at 2 (at + 16) xs;
  source = load_at 2 (at + 18) xs;
  kind = load_at 4 (at + 20) xs;
}

-- the first k entries of a part, and all that it has
unfoldable pub first_entries : ℕ → List ℕ → List LogEntry
first_entries zero xs = []
first_entries (suc k) xs = first_entries k xs ++ (entry_at (24 * k) xs ∷ [])

unfoldable pub entries_of : List ℕ → List LogEntry
entries_of xs = first_entries (length xs / 24) xs

-- ---- 19

-- "a source neither below N nor 65535"
abbrev pub source_out : ℕ → ℕ → Bool
source_out n s = not (ltb s n || eqb s posted)

-- "an entry has a time after H, a target of N or more, a source neither below N nor 65535, or a kind and value that number 10 refuses"
unfoldable pub entry_out : ℕ → LogEntry → Bool
entry_out n e =
    time_late e.time || (station_out n e.target || (source_out n e.source || unsuited (matter_of n e.kind e.value)))

unfoldable pub any_entry_out : ℕ → List LogEntry → Bool
any_entry_out n [] = false
any_entry_out n (e ∷ es) = entry_out n e || any_entry_out n es

-- "a log part isn't a multiple of 24 bytes, or an entry has .."
unfoldable pub part_out : ℕ → List ℕ → Bool
part_out n xs = not (eqb (length xs % 24) 0) || any_entry_out n (entries_of xs)
