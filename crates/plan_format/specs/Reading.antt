-- What reading a plan answers, in checking order (document 01, "What each number says", 1 to 5 and 18).
use Rattle.std.specs.Prelude.{ℕ, Bool, List, [], ◌∷◌, ◌++◌, ltb, Result, Ok, Err}
use Rattle.refusal.specs.declared.Refusal.{Refusal}
use Rattle.refusal.specs.declared.Refusal.TheVariants.{Shape, Pair, Trailing, Field, Name, Output}
use Rattle.refusal.specs.Cases.{Case, gives, first_of}
use Rattle.plan_format.specs.Lowest.{lowest}
use Rattle.plan_format.specs.Plan.{count, shape_wrong, pair_wrong, trails, field_wrong, name_wrong}

-- some station below n passes the test
abbrev pub any : (ℕ → Bool) → ℕ → Bool
any f n = ltb (lowest f n) n

-- a refusal "with the lowest such station" of n
abbrev pub gives_lowest : (ℕ → Refusal) → (ℕ → Bool) → ℕ → Case
gives_lowest refusal f n = gives (refusal (lowest f n)) (any f n)

-- a plan gives 1 to 5
abbrev pub plan_cases : List ℕ → List Case
plan_cases p =
    gives Shape (shape_wrong p)
    ∷ gives_lowest Pair (pair_wrong p) (count p)
    ∷ gives Trailing (trails p)
    ∷ gives_lowest Field (field_wrong p) (count p)
    ∷ gives_lowest Name (name_wrong p) (count p)
    ∷ []

-- the plan's refusal, or its number of stations
unfoldable pub judging : List ℕ → Result ℕ Refusal
judging p = first_of Err (plan_cases p) (Ok (count p))

-- "The plan reader uses 1 to 5 and 18": ".. the reader's list has fewer than N records"
abbrev pub read_cases : List ℕ → ℕ → List Case
read_cases p room = plan_cases p ++ (gives Output (ltb room (count p)) ∷ [])

-- reading the plan into a list of so many records
unfoldable pub reading : List ℕ → ℕ → Result ℕ Refusal
reading p room = first_of Err (read_cases p room) (Ok (count p))

-- how many stations an answer says were read
abbrev pub read_of : Result ℕ Refusal → ℕ
read_of (Ok n) = n
read_of (Err r) = 0
