-- The account that a buffer's bytes stand for, number 20, and the refusals of each call in checking order (document 02, change 1).
use Rattle.std.specs.Prelude.{ℕ, zero, suc, ◌+◌, ◌*◌, Bool, false, ◌||◌, List, [], ◌∷◌}
use Rattle.words.specs.Le.{load_at}
use Rattle.refusal.specs.declared.Refusal.TheVariants.{Space, Station, Part, Charge}
use Rattle.refusal.specs.Tests.{account_space_out, charge_passes, station_out}
use Rattle.refusal.specs.Cases.{Case, gives}
use Rattle.account_parts.specs.Part.{LogEntry, entries_of, part_out}
use Rattle.account_parts.specs.Cost.{cost_at}

-- ---- "A, B and the charges. Their layout is the team's": 4 bytes for A, 4 for B, 8 for each station's charge

abbrev pub reading_cost : List ℕ → ℕ
reading_cost xs = load_at 4 0 xs

abbrev pub frame_cost : List ℕ → ℕ
frame_cost xs = load_at 4 4 xs

abbrev pub charge_at : List ℕ → ℕ → ℕ
charge_at xs s = load_at 8 (8 + 8 * s) xs

-- ---- 20

-- the charge of station s, which was f s, after the entries
abbrev pub charged : ℕ → ℕ → (ℕ → ℕ) → List LogEntry → ℕ → ℕ
charged a b f es s = f s + cost_at a b s es

-- the charge of one of n stations passes 64 bits
unfoldable pub any_passes : ℕ → (ℕ → ℕ) → Bool
any_passes zero f = false
any_passes (suc n) f = any_passes n f || charge_passes (f n)

-- ---- the refusals

-- "Every account call names N and gives 7 first"
abbrev pub account_cases : ℕ → ℕ → List Case
account_cases n bytes = gives Space (account_space_out n bytes) ∷ []

-- a part: 19 "tested after 7", 20 "tested last"
abbrev pub part_cases : ℕ → ℕ → ℕ → ℕ → (ℕ → ℕ) → List ℕ → List Case
part_cases n bytes a b f part =
    gives Space (account_space_out n bytes) ∷ gives Part (part_out n part) ∷ gives Charge (any_passes n (charged a b f (entries_of part))) ∷ []

-- "Reading the charge of a station of N or more gives 9."
abbrev pub charge_cases : ℕ → ℕ → ℕ → List Case
charge_cases n bytes s = gives Space (account_space_out n bytes) ∷ gives Station (station_out n s) ∷ []
