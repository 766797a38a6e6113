-- What each number says, one test a number, for calendar, engine and account alike (document 01, "What each number says, in checking order"). The tests of
-- 1 to 5 stand with the plan, 8 with the command line, 10 with the matter, 13 to 15 with the held events, and 19 with the parts of a log.
use Rattle.std.specs.Prelude.{ℕ, ◌+◌, ◌*◌, Bool, true, false, not, ◌||◌, List, [], ◌∷◌, eqb, ltb, leb}

-- H, the last time of an event ("Events and stations")
abbrev pub horizon : ℕ
horizon = 1099511627775

-- the largest number of 32 bits
abbrev pub largest : ℕ
largest = 4294967295

-- 26: "arity not among the four, checked before 6" (document 02, change 9)
abbrev pub arity_out : ℕ → Bool
arity_out a = not (eqb a 8 || (eqb a 16 || (eqb a 32 || eqb a 64)))

-- 6: the leaf width is out of range, 1 to 1048576
abbrev pub width_out : ℕ → Bool
width_out w = ltb w 1 || ltb 1048576 w

-- the bytes that a calendar of arity a and n stations needs, and an engine of these and so many events
-- ("In number 7 the 32768 becomes 128 times the arity squared")
abbrev pub calendar_bytes : ℕ → ℕ → ℕ
calendar_bytes a n = 128 * (a * a) + 64 * n

abbrev pub engine_bytes : ℕ → ℕ → ℕ → ℕ
engine_bytes a n capacity = 128 * (a * a) + 256 * n + 256 * capacity

-- 7: N is out of range for the calendar, or its buffer of the given length is too short
abbrev pub calendar_space_out : ℕ → ℕ → ℕ → Bool
calendar_space_out a n bytes = ltb n 1 || (ltb 256 n || ltb bytes (calendar_bytes a n))

-- 7: the capacity is out of range, 2 to 4096, or the engine's buffer of the given length is too short
abbrev pub engine_space_out : ℕ → ℕ → ℕ → ℕ → Bool
engine_space_out a n capacity bytes = ltb capacity 2 || (ltb 4096 capacity || ltb bytes (engine_bytes a n capacity))

-- 7 of every call of the account: "for N out of range or a lent buffer under 8 + 8·N bytes (A, B and the charges)" (document 02, change 1)
abbrev pub account_bytes : ℕ → ℕ
account_bytes n = 8 + 8 * n

abbrev pub account_space_out : ℕ → ℕ → Bool
account_space_out n bytes = ltb n 1 || (ltb 256 n || ltb bytes (account_bytes n))

-- 9: the station is N or more
abbrev pub station_out : ℕ → ℕ → Bool
station_out n s = leb n s

-- 11: a time is after H; a commit time or floor is after H + 1
abbrev pub time_late : ℕ → Bool
time_late t = ltb horizon t

abbrev pub floor_late : ℕ → Bool
floor_late c = ltb (horizon + 1) c

-- 12: a time is before the commit time or floor
abbrev pub time_early : ℕ → ℕ → Bool
time_early now t = ltb t now

-- 16: a number would pass 4294967295
abbrev pub passes : ℕ → Bool
passes n = ltb largest n

-- 17: fewer places are free than events are added
abbrev pub too_few : ℕ → ℕ → Bool
too_few free added = ltb free added

-- 20: "a station's charge would pass 64 bits" (document 02, change 1)
abbrev pub charge_passes : ℕ → Bool
charge_passes v = ltb 18446744073709551615 v

-- ---- the checking order

-- a number, and whether what it says is so
pub record Check : Type 0 where
  pub number : ℕ
  pub holds : Bool

abbrev pub says : ℕ → Bool → Check
says n b = record { number = n; holds = b }

pub data Verdict : Type 0 where
  accepted : Verdict
  refused : ℕ → Verdict

unfoldable pub or_next : Bool → ℕ → Verdict → Verdict
or_next true n rest = refused n
or_next false n rest = rest

-- a call is refused by the first number of its list that holds, and accepted where none does
unfoldable pub judged : List Check → Verdict
judged [] = accepted
judged (c ∷ cs) = or_next c.holds c.number (judged cs)
