-- The header's words, the stations and the slots share no byte: each cell lies in its row, and the rows are apart.
use mathlib.Core.Path.{◌≡◌}
use mathlib.Core.Logic.{inl, inr}
use mathlib.Core.List.{List}
use Prim.Native.Nat.{ℕ, ◌+◌, ◌*◌, ◌≤◌, ◌<◌}
use native.Mathlib.Omega.{arith}
use Rattle.words.proofs.Laws.{Apart}
use Rattle.engine_rows.specs.Layout.{station_row, slot_row}
use Rattle.engine_records.proofs.Cells.{Cell, number, state, config, place, width, Value, read, write, Beside, beside, read_beside}

-- ---- cells

abbrev pub word_of : ℕ → Cell
word_of k = number 8 (8 * k)

abbrev pub config_of : ℕ → ℕ → Cell
config_of n s = config (station_row n s)

abbrev pub state_of : ℕ → ℕ → Cell
state_of n s = state (station_row n s + 32)

-- ---- a cell in a row

-- the cell lies whole in the n bytes from r
pub record In (r n : ℕ) (c : Cell) : Type 0 where
  pub from : r ≤ place c
  pub to : place c + width c ≤ r + n

abbrev pub InHeader : Cell → Type 0
InHeader c = In 0 64 c

abbrev pub InStation : ℕ → ℕ → Cell → Type 0
InStation n s c = In (station_row n s) 128 c

pub word_in : (k : ℕ) → k < 8 → InHeader (word_of k)
word_in k h = record { from = omega arith; to = omega arith }

pub config_in : (n s : ℕ) → InStation n s (config_of n s)
config_in n s = record { from = omega arith; to = omega arith }

pub state_in : (n s : ℕ) → InStation n s (state_of n s)
state_in n s = record { from = omega arith; to = omega arith }

-- ---- rows

-- each fact of two rows or cells holds the other way round by ⊎-swap of mathlib.Core.Logic

module _ (n : ℕ) where
  pub slots : (i j : ℕ) → (i ≡ j → ⊥) → Apart (slot_row n i) 64 (slot_row n j) 64
  slots i j ne = beside (number 64 (slot_row n i)) (number 64 (slot_row n j)) (λ l. omega arith)

  pub stations : (s t : ℕ) → (s ≡ t → ⊥) → Apart (station_row n s) 128 (station_row n t) 128
  stations s t ne = beside (number 128 (station_row n s)) (number 128 (station_row n t)) (λ l. omega arith)

  -- bytes before the rows: the header
  pub before_station : (a w s : ℕ) → a + w ≤ station_row n 0 → Apart a w (station_row n s) 128
  before_station a w s h = inl (omega arith)

  pub header_station : (s : ℕ) → Apart 0 64 (station_row n s) 128
  header_station s = before_station 0 64 s (omega arith)

-- cells of rows that are apart
pub rows_beside : {r a q b : ℕ} {c d : Cell} → In r a c → In q b d → Apart r a q b → Beside c d
rows_beside C D (inl h) = inl (omega arith)
rows_beside C D (inr h) = inr (omega arith)

-- what was written in one row changes nothing in another
pub row_other : {r a q b : ℕ} {c d : Cell} → In r a c → In q b d → Apart r a q b → (v : Value c) (xs : List ℕ) → read d (write c v xs) ≡ read d xs
row_other {c = c} {d = d} C D h v xs = read_beside c d v xs (rows_beside C D h)

-- ---- cells of one row

pub words : (k l : ℕ) → (k ≡ l → ⊥) → Beside (word_of k) (word_of l)
words k l ne = beside (word_of k) (word_of l) (λ h. omega arith)

-- ---- room: a cell lies whole in l bytes that hold the rows

pub station_room : (n s l : ℕ) {c : Cell} → s < n → slot_row n 0 ≤ l → InStation n s c → place c + width c ≤ l
station_room n s l b h C = omega arith
