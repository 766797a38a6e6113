-- One station's name, as that part of the caller's bytes (document 01, "Plan of a line": "That showing gives 1 to 5, then 9").
use Rattle.std.specs.Prelude.{ℕ, ◌+◌, ◌-◌, ◌≡◌, List, [], ◌∷◌, ◌++◌, take, drop, Result, Ok, Err}
use Rattle.std.specs.Borrow.{Bor}
use Rattle.refusal.specs.declared.Refusal.{Refusal}
use Rattle.refusal.specs.declared.Refusal.TheVariants.{Station as NoStation}
use Rattle.refusal.specs.Tests.{station_out}
use Rattle.refusal.specs.Cases.{Case, gives, first_of}
use Rattle.plan_format.specs.Plan.{count, offset_of, length_of}
use Rattle.plan_format.specs.Reading.{plan_cases}

-- where a name stands in a plan: its first byte, and how many it has
pub record NamePlace : Type 0 where
  pub at : ℕ
  pub len : ℕ

-- 1 to 5 of the plan, then 9
abbrev pub name_cases : List ℕ → ℕ → List Case
name_cases p k = plan_cases p ++ (gives NoStation (station_out (count p) k) ∷ [])

-- the place of station k's name, after the numbers of its record
abbrev pub name_at : List ℕ → ℕ → NamePlace
name_at p k = record { at = offset_of p k + 26; len = length_of p k - 26 }

unfoldable pub naming : List ℕ → ℕ → Result NamePlace Refusal
naming p k = first_of Err (name_cases p k) (Ok (name_at p k))

-- the bytes that a place shows, and where they begin
abbrev pub shown : List ℕ → NamePlace → List ℕ
shown p w = take w.len (drop w.at p)

abbrev pub start_of : NamePlace → ℕ
start_of w = w.at

-- r is that part of the caller's bytes x: its bytes, and its place in memory
pub record IsPart (x r : Bor (List ℕ)) (w : NamePlace) : Type 0 where
  pub bytes : r.now ≡ shown x.now w
  pub block : r.ref_ptr.0 ≡ x.ref_ptr.0
  pub start : r.ref_ptr.1 ≡ start_of w + x.ref_ptr.1
