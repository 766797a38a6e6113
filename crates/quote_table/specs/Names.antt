-- The name that is printed of a station.
use Rattle.std.specs.Prelude.{◌≡◌, List, ℕ, ◌+◌, ◌-◌, ◌≤◌, length, take, drop}
use Rattle.std.specs.Str.{IsUtf8}
use Rattle.plan_format.specs.Plan.{offset_of, length_of}

-- its bytes are the record's from byte 26 on, where the plan has them and they are text
abbrev pub printed_name : List ℕ → ℕ → List ℕ
printed_name p k = take (length_of p k - 26) (drop (offset_of p k + 26) p)

abbrev pub NamesStation : List ℕ → ℕ → List ℕ → Type 0
NamesStation p k name = 26 ≤ length_of p k → offset_of p k + length_of p k ≤ length p → IsUtf8 (printed_name p k) → name ≡ printed_name p k
