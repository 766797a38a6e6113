-- The plan that a list of stations is written as, and what writing it answers (document 01, "Plan of a line"; the writer's numbers 1, 4, 5, 18).
use Rattle.std.specs.Prelude.{ℕ, ◌+◌, ◌*◌, Bool, ◌||◌, List, [], ◌∷◌, ◌++◌, ltb, length, take, drop, get_or, replicate, Result, Ok, Err}
use Rattle.words.specs.Le.{bytes_of}
use Rattle.refusal.specs.declared.Refusal.{Refusal}
use Rattle.refusal.specs.declared.Refusal.TheVariants.{Shape, Field, Name, Output}
use Rattle.refusal.specs.Cases.{Case, gives, first_of}
use Rattle.line.specs.Station.{number_out}
use Rattle.plan_format.specs.declared.Station.{Station}
use Rattle.plan_format.specs.Plan.{name_out}
use Rattle.plan_format.specs.Reading.{gives_lowest}

-- ---- the bytes

abbrev pub size_of : Station → ℕ
size_of s = 26 + s.len

-- a record: its numbers, and the name; "the writer passes over" the bytes after its length
unfoldable pub record_bytes : Station → List ℕ
record_bytes s =
    bytes_of 2 s.config.parent ++ (bytes_of 4 s.config.calm ++ (bytes_of 4 s.config.spring ++ (bytes_of 4 s.config.threshold
    ++ (bytes_of 4 s.config.hop ++ (bytes_of 4 s.config.noise ++ (bytes_of 4 s.config.seed ++ take s.len s.name))))))

-- the pairs of the stations, of which the first's record begins at a place
unfoldable pub pairs_of : ℕ → List Station → List ℕ
pairs_of at [] = []
pairs_of at (s ∷ ss) = bytes_of 4 at ++ (bytes_of 4 (size_of s) ++ pairs_of (at + size_of s) ss)

unfoldable pub records_of : List Station → List ℕ
records_of [] = []
records_of (s ∷ ss) = record_bytes s ++ records_of ss

unfoldable pub plan_of : List Station → List ℕ
plan_of ss = bytes_of 2 (length ss) ++ (pairs_of (2 + 8 * length ss) ss ++ records_of ss)

-- ---- the answer

-- no station: what stands past the end of a list
abbrev pub no_station : Station
no_station = record { config = record { parent = 0; calm = 0; spring = 0; threshold = 0; hop = 0; noise = 0; seed = 0 }; name = replicate 16 0; len = 0 }

-- 4 and 5 of the station at k
abbrev pub field_out : List Station → ℕ → Bool
field_out ss k = number_out k (get_or ss k no_station).config

abbrev pub word_out : List Station → ℕ → Bool
word_out ss k = name_out (get_or ss k no_station)

-- 1: "N is 0 or over 256", or more than the list of so many records has
abbrev pub count_out : ℕ → ℕ → Bool
count_out n len = ltb n 1 || (ltb 256 n || ltb len n)

-- ".. the writer 1, 4, 5, 18": ".. the plan writer's output is shorter than the plan"
abbrev pub write_cases : ℕ → List Station → ℕ → List Case
write_cases n ss room =
    gives Shape (count_out n (length ss))
    ∷ gives_lowest Field (field_out ss) n
    ∷ gives_lowest Name (word_out ss) n
    ∷ gives Output (ltb room (length (plan_of (take n ss))))
    ∷ []

-- writing the first n stations of the list into so many bytes
unfoldable pub writing : ℕ → List Station → ℕ → Result ℕ Refusal
writing n ss room = first_of Err (write_cases n ss room) (Ok (length (plan_of (take n ss))))

-- the output as the call leaves it, "what stands behind" the plan unchanged
abbrev pub left : Result ℕ Refusal → List ℕ → List ℕ → List ℕ
left (Ok n) plan out = plan ++ drop n out
left (Err r) plan out = out
