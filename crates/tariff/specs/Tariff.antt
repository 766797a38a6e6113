-- The star line's tariff (document 02, change 14).
use Rattle.std.specs.Prelude.{ℕ, suc, ◌+◌, ◌-◌, ◌/◌, Bool, false, cond, List, leb, Option, Some, None, Result, Ok, Err}
use Rattle.words.specs.Sums.{sum_to}
use Rattle.refusal.specs.declared.Refusal.{Refusal}
use Rattle.refusal.specs.Tests.{floor_late}
use Rattle.line.specs.declared.Config.{Config}
use Rattle.line.specs.Station.{Plan}
use Rattle.plan_format.specs.Line.{line_of}
use Rattle.plan_format.specs.Reading.{judging}
use Rattle.tariff.specs.Star.{is_star}

-- ---- the sum

-- n "divided by the period, rounded up"
unfoldable pub rounded_up : ℕ → ℕ → ℕ
rounded_up n period = (n + period - 1) / period

-- a station's share: "0 where c is at most the hop delay, else (c minus hop delay) divided by the period, rounded up"
unfoldable pub share : Config → ℕ → ℕ
share g c = cond (leb c g.hop) 0 (rounded_up (c - g.hop) g.calm)

-- "the sum over those stations", which are those other than 0: stations 1 to N - 1
unfoldable pub tariff : Plan → ℕ → ℕ
tariff p c = sum_to (p.count - 1) (λ k. share (p.config (suc k)) c)

-- ---- the answers

abbrev pub star_in : Result ℕ Refusal → Bool → Bool
star_in (Ok n) star = star
star_in (Err e) star = false

-- "A checker of plans says yes to such plans and no to all others"; no "also for a refused plan"
unfoldable pub is_star_plan : List ℕ → Bool
is_star_plan plan = star_in (judging plan) (is_star (line_of plan))

-- no also for a c that "is after H + 1"
unfoldable pub tariff_of : List ℕ → ℕ → Option ℕ
tariff_of plan c = cond (floor_late c) None (cond (is_star_plan plan) (Some (tariff (line_of plan) c)) None)
