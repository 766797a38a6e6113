-- The calendar's rules: its state, the numbers of each call in checking order, and what an accepted call makes of the state (document 01, "Calendar").
use Rattle.std.specs.Prelude.{◌≡◌, Bool, true, false, ◌||◌, List, [], ◌∷◌, ℕ, ◌≤◌, ltb, length, get_or, set, replicate}
use Rattle.std.proofs.Math.Option.{Option, none, some}
use Rattle.calendar_ring.specs.WordsRead.{words_read}
use Rattle.refusal.specs.Tests.{Check, says, arity_out, width_out, calendar_space_out, station_out, time_late, floor_late, time_early}

-- the arity, the leaf width, the floor, and for each station absent or the time at which it is registered
pub record Calendar : Type 0 where
  pub arity : ℕ
  pub width : ℕ
  pub floor : ℕ
  pub times : List (Option ℕ)

-- ---- the tests of 14 and 15

-- nothing is registered
unfoldable pub none_registered : List (Option ℕ) → Bool
none_registered [] = true
none_registered (none ∷ ts) = none_registered ts
none_registered (some t ∷ ts) = false

-- a registered time lies before the new floor
unfoldable pub any_before : ℕ → List (Option ℕ) → Bool
any_before f [] = false
any_before f (none ∷ ts) = any_before f ts
any_before f (some t ∷ ts) = ltb t f || any_before f ts

-- ---- open

-- "26: arity not among the four, checked before 6" (document 02, change 9)
abbrev pub open_checks : ℕ → ℕ → ℕ → ℕ → List Check
open_checks n a w bytes = says 26 (arity_out a) ∷ says 6 (width_out w) ∷ says 7 (calendar_space_out a n bytes) ∷ []

-- "The floor starts at 0"
abbrev pub opened_calendar : ℕ → ℕ → ℕ → Calendar
opened_calendar n a w = record { arity = a; width = w; floor = 0; times = replicate n none }

-- ---- register ("moves a registered station") and unregister ("of an absent one: accepted, nothing done")

abbrev pub register_checks : Calendar → ℕ → ℕ → List Check
register_checks q s t = says 9 (station_out (length q.times) s) ∷ says 11 (time_late t) ∷ says 12 (time_early q.floor t) ∷ []

abbrev pub with_time : Calendar → ℕ → Option ℕ → Calendar
with_time q s o = record { arity = q.arity; width = q.width; floor = q.floor; times = set q.times s o }

abbrev pub registered_at : Calendar → ℕ → ℕ → Calendar
registered_at q s t = with_time q s (some t)

abbrev pub unregister_checks : Calendar → ℕ → List Check
unregister_checks q s = says 9 (station_out (length q.times) s) ∷ []

abbrev pub unregistered : Calendar → ℕ → Calendar
unregistered q s = with_time q s none

-- ---- lowest, and extract ("lowest, then removed")

abbrev pub lowest_checks : Calendar → List Check
lowest_checks q = says 14 (none_registered q.times) ∷ []

-- "the least registered time and a station that has it", "the lowest-numbered of these" (document 02, change 3)
pub record LeastAt (ts : List (Option ℕ)) (s t : ℕ) : Type 0 where
  pub has : get_or ts s none ≡ some t
  pub least : (x u : ℕ) → get_or ts x none ≡ some u → t ≤ u
  pub first : (x : ℕ) → get_or ts x none ≡ some t → s ≤ x

-- "Lowest and extract shall answer how many bitmap words they read" (document 02, change 5): by the arity, the leaf width, the floor and the registered
-- times alone. "Times still in the overflow table add nothing": only the ring's 16 blocks are asked
abbrev pub words_of : Calendar → ℕ
words_of q = words_read q.arity q.width q.floor q.times

-- ---- advance the floor

abbrev pub advance_checks : Calendar → ℕ → List Check
advance_checks q f = says 11 (floor_late f) ∷ says 12 (time_early q.floor f) ∷ says 15 (any_before f q.times) ∷ []

abbrev pub advanced : Calendar → ℕ → Calendar
advanced q f = record { arity = q.arity; width = q.width; floor = f; times = q.times }
