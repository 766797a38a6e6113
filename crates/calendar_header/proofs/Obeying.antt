-- Which number a call answers on a calendar's bytes: each refusal's checks, and what an accepted call leaves.
use mathlib.Core.Path.{◌≡◌, refl, subst}
use mathlib.Core.List.{List}
use Prim.Native.Nat.{ℕ, ◌≤◌, ◌<◌}
use native.Mathlib.Omega.{arith}
use Rattle.refusal.specs.declared.Refusal.{Refusal}
use Rattle.refusal.specs.Numbers.{number_of}
use Rattle.refusal.specs.Tests.{Check, accepted, refused, judged}
use Rattle.std.specs.Prelude.{Ok, Err}
use Rattle.calendar_header.specs.Rules.{Calendar}
use Rattle.calendar_header.specs.Bytes.{count_of, Sound, state_of}
use Rattle.calendar_header.specs.Promises.{Obeys}

-- ---- any call

module _ (checks : Calendar → List Check) (after : Calendar → Calendar) (xs : List ℕ) where
  pub obeys_refused : (e : Refusal) → (Sound xs → refused (number_of e) ≡ judged (checks (state_of xs))) → Obeys checks after xs (Err e) xs
  obeys_refused e h = record { refusal = refl; answer = h; state = λ S. tt; sound = λ S. S }

  pub obeys_done : (ys : List ℕ) → (Sound xs → accepted ≡ judged (checks (state_of xs))) → (Sound xs → state_of ys ≡ after (state_of xs)) → (Sound xs → Sound ys)
      → Obeys checks after xs (Ok tt) ys
  obeys_done ys a s t = record { refusal = tt; answer = a; state = s; sound = t }

-- a station from a number on that a calendar's number of stations is
pub out_of : (xs : List ℕ) (n s : ℕ) → (Sound xs → n ≡ count_of xs) → n ≤ s → Sound xs → count_of xs ≤ s
out_of xs n s h l S = subst (λ (y : ℕ). y ≤ s) (h S) l

pub one_of : (xs : List ℕ) (n s : ℕ) → (Sound xs → n ≡ count_of xs) → s < n → Sound xs → s < count_of xs
one_of xs n s h l S = subst (λ (y : ℕ). s < y) (h S) l
