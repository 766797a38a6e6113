-- Plans are read and written as inverses: about the calls, each known by its promise alone.
use Rattle.std.specs.Prelude.{Result, Ok, ◌≡◌, List, ◌++◌, ℕ, ◌<◌, ◌≤◌, length, take, drop, get_or}
use Rattle.refusal.specs.declared.Refusal.{Refusal}
use Rattle.plan_format.specs.declared.Station.{Station}
use Rattle.plan_format.specs.Writing.{no_station}
use Rattle.plan_reading.specs.Promises.{ReadsPlan}
use Rattle.plan_writing.specs.Promises.{WritesPlan}

-- "two records are equal when their numbers and names are" (document 01, "Plan of a line")
pub record EqualRecords (a b : Station) : Type 0 where
  pub numbers : a.config ≡ b.config
  pub len : a.len ≡ b.len
  pub name : take a.len a.name ≡ take b.len b.name

-- the first n records of two lists
abbrev pub EqualFirst : ℕ → List Station → List Station → Type 0
EqualFirst n xs ys = (k : ℕ) → k < n → EqualRecords (get_or xs k no_station) (get_or ys k no_station)

pub record Inverse : Type 0 where
  -- the stations that an accepted read gave are accepted by the writer, and it writes the plan's bytes again, where the output holds them
  pub written_again : (plan : List ℕ) (n : ℕ) (list stations : List Station) (out after : List ℕ) (r : Result ℕ Refusal)
      → ReadsPlan plan list (Ok n) stations → WritesPlan stations n out r after → length plan ≤ length out
      → (r ≡ Ok (length plan)) × (after ≡ plan ++ drop (length plan) out)
  -- the bytes that an accepted write gave are accepted by the reader, and it gives equal records again, where the list holds them
  pub read_again : (stations : List Station) (n len : ℕ) (out after : List ℕ) (list again : List Station) (r : Result ℕ Refusal)
      → WritesPlan stations n out (Ok len) after → ReadsPlan (take len after) list r again → n ≤ length list
      → (r ≡ Ok n) × EqualFirst n again stations
