-- The lines of a scenario (docs/QUOTE.md, "The scenario").
use Rattle.std.specs.Prelude.{List, [], ◌∷◌, ℕ, ◌≤◌}
use Rattle.text.specs.Decimal.{Fits}
use Rattle.text.specs.Spaced.{spaced}
use Rattle.scenario.specs.declared.Order.{Order}
use Rattle.scenario.specs.declared.Order.TheVariants.{Days, Read, Level}

-- the words, in ASCII
abbrev pub days_word : List ℕ
days_word = 100 ∷ 97 ∷ 121 ∷ 115 ∷ []

abbrev pub read_word : List ℕ
read_word = 114 ∷ 101 ∷ 97 ∷ 100 ∷ []

abbrev pub level_word : List ℕ
level_word = 108 ∷ 101 ∷ 118 ∷ 101 ∷ 108 ∷ []

-- "days DAYS", "read STATION TIME", "level STATION TIME MM"
unfoldable pub order_line : Order → List ℕ
order_line (Days days) = spaced days_word (days ∷ [])
order_line (Read station time) = spaced read_word (station ∷ time ∷ [])
order_line (Level station time mm) = spaced level_word (station ∷ time ∷ mm ∷ [])

-- 1 to 366 days; numbers of 64 bits
abbrev pub FitsOrder : Order → Type 0
FitsOrder (Days days) = (1 ≤ days) × (days ≤ 366)
FitsOrder (Read station time) = Fits station × Fits time
FitsOrder (Level station time mm) = Fits station × Fits time × Fits mm
