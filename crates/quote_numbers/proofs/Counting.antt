-- Counts of the table of hours, and means.
use mathlib.Core.Path.{◌≡◌, refl, ap}
use mathlib.Core.List.{List}
use Prim.Native.Nat.{ℕ, zero, suc, ◌+◌, ◌*◌, ◌-◌, ◌/◌}
use native.Mathlib.Omega.{arith}
use lib.ListN.{get_or}
use Rattle.quote_numbers.specs.Hours.{count_before}
use Rattle.quote_numbers.specs.Tenths.{tenths_aday}

pub none_before : (hs : List ℕ) (which hour : ℕ) → hour ≡ 0 → 0 ≡ count_before hs which hour
unfolding count_before
none_before hs which zero e = refl
none_before hs which (suc h) e = absurd (omega arith)

pub some_before : (hs : List ℕ) (which hour : ℕ) → (hour ≡ 0 → ⊥) → get_or hs (2 * (hour - 1) + which) 0 ≡ count_before hs which hour
unfolding count_before
some_before hs which zero e = absurd (e refl)
some_before hs which (suc h) e = ap (λ (k : ℕ). get_or hs (2 * k + which) 0) (let z : suc h - 1 ≡ h = omega arith in z)

pub no_day : (frames days : ℕ) → days ≡ 0 → 0 ≡ tenths_aday frames days
unfolding tenths_aday
no_day frames zero e = refl
no_day frames (suc d) e = absurd (omega arith)

pub some_days : (frames days : ℕ) → (days ≡ 0 → ⊥) → 10 * frames / days ≡ tenths_aday frames days
unfolding tenths_aday
some_days frames zero e = absurd (e refl)
some_days frames (suc d) e = refl
