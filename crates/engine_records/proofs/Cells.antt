-- A cell is a number or a record at a place: each law of a load, a store and the records, said once for all of them.
use mathlib.Core.Path.{◌≡◌}
use mathlib.Core.Logic.{inl, inr}
use mathlib.Core.List.{List}
use Prim.Native.Nat.{ℕ, ◌+◌, ◌^◌, ◌≤◌, ◌<◌}
use native.Mathlib.Decide.{dec_lt}
use native.Mathlib.Omega.{arith}
use lib.ListN.{length}
use Rattle.words.specs.Le.{load_at, store_at}
use Rattle.words.proofs.Laws.{Apart, length_store, load_other, load_stored}
use Rattle.line.specs.declared.Event.{Event}
use Rattle.line.specs.declared.State.{State}
use Rattle.line.specs.declared.Config.{Config}
use Rattle.entry.specs.Entry.{event_at, put_event}
use Rattle.engine_records.specs.Records.{state_bytes, config_bytes, state_at, put_state, stored_config, put_config}
use Rattle.line.specs.Widths.{EventFits, StateFits, ConfigFits}
use Rattle.entry.proofs.EntryLaws.{length_event, event_beside, event_back}
use Rattle.engine_records.proofs.RecordLaws.{length_state, length_config, state_beside, config_beside, state_back, config_back}

-- a number of so many bytes, an event, a state, a station's numbers of the plan
pub data Cell : Type 0 where
  number : ℕ → ℕ → Cell
  event : ℕ → Cell
  state : ℕ → Cell
  config : ℕ → Cell

abbrev pub place : Cell → ℕ
place (number m at) = at
place (event at) = at
place (state at) = at
place (config at) = at

abbrev pub width : Cell → ℕ
width (number m at) = m
width (event at) = 24
width (state at) = state_bytes
width (config at) = config_bytes

abbrev pub Value : Cell → Type 0
Value (number m at) = ℕ
Value (event at) = Event
Value (state at) = State
Value (config at) = Config

abbrev pub read : (c : Cell) → List ℕ → Value c
read (number m at) = load_at m at
read (event at) = event_at at
read (state at) = state_at at
read (config at) = stored_config at

abbrev pub write : (c : Cell) → Value c → List ℕ → List ℕ
write (number m at) = store_at m at
write (event at) = put_event at
write (state at) = put_state at
write (config at) = put_config at

-- a value that fits its cell
abbrev pub Fits : (c : Cell) → Value c → Type 0
Fits (number m at) v = v < 256 ^ m
Fits (event at) x = EventFits x
Fits (state at) s = StateFits s
Fits (config at) c = ConfigFits c

-- two cells that share no byte
abbrev pub Beside : Cell → Cell → Type 0
Beside c d = Apart (place c) (width c) (place d) (width d)

-- one inequality shows it: where d starts before the end of c, it has ended where c starts
pub beside : (c d : Cell) → (place d < place c + width c → place d + width d ≤ place c) → Beside c d
beside c d f = go (dec_lt (place d) (place c + width c))
  where
    go : Dec (place d < place c + width c) → Beside c d
    go (yes l) = inr (f l)
    go (no l) = inl (omega arith)

-- ---- what is written

pub length_write : (c : Cell) (v : Value c) (xs : List ℕ) → length (write c v xs) ≡ length xs
length_write (number m at) = length_store m at
length_write (event at) = length_event at
length_write (state at) = length_state at
length_write (config at) = length_config at

pub read_written : (c : Cell) (v : Value c) (xs : List ℕ) → place c + width c ≤ length xs → Fits c v → read c (write c v xs) ≡ v
read_written (number m at) = load_stored m at
read_written (event at) = event_back at
read_written (state at) = state_back at
read_written (config at) = config_back at

-- ---- what stands beside it

-- any m bytes
pub load_beside : (c : Cell) (v : Value c) (xs : List ℕ) (m j : ℕ) → Apart (place c) (width c) j m → load_at m j (write c v xs) ≡ load_at m j xs
load_beside (number n at) v xs m j a = load_other m n at v xs j a
load_beside (event at) v xs m j a = event_beside at v xs m j a
load_beside (state at) v xs m j a = state_beside at v xs m j a
load_beside (config at) v xs m j a = config_beside at v xs m j a

-- numbers that are as they were within a cell
pub read_same : (c : Cell) (xs ys : List ℕ) → ((m j : ℕ) → place c ≤ j → j + m ≤ place c + width c → load_at m j ys ≡ load_at m j xs)
    → read c ys ≡ read c xs
unfolding event_at state_at stored_config
read_same (number m at) xs ys h = h m at (omega arith) (omega arith)
read_same (event at) xs ys h =
    rw (
      h 8 at (omega arith) (omega arith),
      h 4 (at + 8) (omega arith) (omega arith),
      h 4 (at + 12) (omega arith) (omega arith),
      h 2 (at + 16) (omega arith) (omega arith),
      h 2 (at + 18) (omega arith) (omega arith),
      h 4 (at + 20) (omega arith) (omega arith),
    )
read_same (state at) xs ys h =
    rw (
      h 4 at (omega arith) (omega arith),
      h 4 (at + 4) (omega arith) (omega arith),
      h 4 (at + 8) (omega arith) (omega arith),
      h 4 (at + 12) (omega arith) (omega arith),
      h 4 (at + 16) (omega arith) (omega arith),
      h 8 (at + 20) (omega arith) (omega arith),
      h 4 (at + 28) (omega arith) (omega arith),
    )
read_same (config at) xs ys h =
    rw (
      h 2 at (omega arith) (omega arith),
      h 4 (at + 4) (omega arith) (omega arith),
      h 4 (at + 8) (omega arith) (omega arith),
      h 4 (at + 12) (omega arith) (omega arith),
      h 4 (at + 16) (omega arith) (omega arith),
      h 4 (at + 20) (omega arith) (omega arith),
      h 4 (at + 24) (omega arith) (omega arith),
    )

-- any cell
pub read_beside : (c d : Cell) (v : Value c) (xs : List ℕ) → Beside c d → read d (write c v xs) ≡ read d xs
read_beside c d v xs a = read_same d xs (write c v xs) (λ m j h l. load_beside c v xs m j (part m j a h l))
  where
    part : (m j : ℕ) → Beside c d → place d ≤ j → j + m ≤ place d + width d → Apart (place c) (width c) j m
    part m j (inl b) h l = inl (omega arith)
    part m j (inr b) h l = inr (omega arith)
