-- What the state of a calendar's bytes has for a station.
use mathlib.Core.Path.{◌≡◌, refl, sym, ap, ◌∙◌}
use mathlib.Core.Bool.{true}
use mathlib.Core.Logic.{◌⊎◌, inl, inr}
use mathlib.Core.Option.{none, some}
use mathlib.Core.List.{List}
use Prim.Native.Nat.{ℕ, suc, ◌-◌, ◌≤◌, ◌<◌}
use native.Mathlib.Omega.{arith}
use lib.ListN.{length, get_or}
use Rattle.calendar_cells.specs.Table.{due_of, Due}
use Rattle.words.proofs.Cases.{lt_or}
use Rattle.calendar_header.specs.Rules.{none_registered}
use Rattle.calendar_header.specs.Bytes.{floor_of, count_of, SoundAt, time_for, times_from, state_of}
use Rattle.calendar_header.proofs.Times.{time_due, due_time, times_length, times_at, times_past}
use Rattle.calendar_header.proofs.Tests.{none_some, none_true}

-- ---- the times

pub state_length : (xs : List ℕ) → length (state_of xs).times ≡ count_of xs
unfolding state_of
state_length xs = times_length (due_of xs) 0 (count_of xs)

pub state_floor : (xs : List ℕ) → (state_of xs).floor ≡ floor_of xs
unfolding state_of
state_floor xs = refl

module _ {a : ℕ} (xs : List ℕ) (S : SoundAt a xs) where
  -- a registered station is one of the calendar's
  due_counted : (x : ℕ) → x < 256 → Due xs x → x < count_of xs
  due_counted x l r = go (lt_or x (count_of xs))
    where
      go : (x < count_of xs) ⊎ (count_of xs ≤ x) → x < count_of xs
      go (inl k) = k
      go (inr k) = absurd (r (S.absent x l k))

  -- its time is a time of the state
  pub time_at : (x : ℕ) → x < 256 → Due xs x → get_or (state_of xs).times x none ≡ some (due_of xs x - 1)
  unfolding state_of
  time_at x l r = times_at (due_of xs) (count_of xs) x (due_counted x l r) ∙ time_due (due_of xs x) r

  -- a time of the state is a registered station's
  pub time_of : (x t : ℕ) → get_or (state_of xs).times x none ≡ some t → (x < count_of xs) × (x < 256) × (due_of xs x ≡ suc t)
  unfolding state_of
  time_of x t e = go (lt_or x (count_of xs))
    where
      go : (x < count_of xs) ⊎ (count_of xs ≤ x) → (x < count_of xs) × (x < 256) × (due_of xs x ≡ suc t)
      go (inl l) = (l, omega (arith, S.header.count_most), due_time (due_of xs x) t (sym (times_at (due_of xs) (count_of xs) x l) ∙ e))
      go (inr l) = absurd (none_some (sym (times_past (due_of xs) (count_of xs) x l) ∙ e))

  -- where no station is registered the state has none
  pub none_due : ((x : ℕ) → x < 256 → due_of xs x ≡ 0) → none_registered (state_of xs).times ≡ true
  unfolding state_of time_for
  none_due h = none_true (times_from (due_of xs) 0 (count_of xs)) (λ x. go x (lt_or x (count_of xs)))
    where
      go : (x : ℕ) → (x < count_of xs) ⊎ (count_of xs ≤ x) → get_or (times_from (due_of xs) 0 (count_of xs)) x none ≡ none
      go x (inl l) = times_at (due_of xs) (count_of xs) x l ∙ ap time_for (h x (omega (arith, S.header.count_most)))
      go x (inr l) = times_past (due_of xs) (count_of xs) x l
