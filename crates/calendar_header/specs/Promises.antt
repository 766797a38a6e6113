-- What each call promises, on any bytes and on a calendar's. `Sound` is what an accepted opening and the calls after it leave; every promise keeps it.
use Rattle.std.specs.Prelude.{◌≡◌, List, ℕ, ◌≤◌, ◌<◌, length, Result, Ok, Err, IfOk, IfErr, OnOk, OnErr}
use Rattle.refusal.specs.declared.Refusal.{Refusal}
use Rattle.refusal.specs.declared.Refusal.TheVariants.{Idle}
use Rattle.refusal.specs.Numbers.{number_of}
use Rattle.refusal.specs.Tests.{Check, Verdict, accepted, refused, judged}
use Rattle.calendar_answers.specs.declared.Least.{Least}
use Rattle.calendar_header.specs.Rules.{Calendar, open_checks, opened_calendar, unregistered, lowest_checks, LeastAt, words_of}
use Rattle.calendar_header.specs.Bytes.{Sound, state_of}

-- ---- the number that an answer says

abbrev pub verdict_of : {T : Type 0} → Result T Refusal → Verdict
verdict_of (Ok x) = accepted
verdict_of (Err e) = refused (number_of e)

-- ---- the promises: of the bytes xs at entry, the answer r and the bytes ys at exit

-- register, unregister and advance: their checks, and the state that they leave where none holds
pub record Obeys (checks : Calendar → List Check) (after : Calendar → Calendar) (xs : List ℕ) (r : Result Unit Refusal) (ys : List ℕ) : Type 0 where
  pub refusal : OnErr r (ys ≡ xs)
  pub answer : Sound xs → verdict_of r ≡ judged (checks (state_of xs))
  pub state : Sound xs → OnOk r (state_of ys ≡ after (state_of xs))
  pub sound : Sound xs → Sound ys

-- its refusal is 14, its station one of 256, and its count "never exceeds 17", on any bytes. "A refusal carries no count"
pub record Names (xs : List ℕ) (r : Result Least Refusal) : Type 0 where
  pub idle : IfErr r (λ e. e ≡ Idle)
  pub station : IfOk r (λ a. a.station < 256)
  pub most : IfOk r (λ a. a.words ≤ 17)
  pub answer : Sound xs → verdict_of r ≡ judged (lowest_checks (state_of xs))
  pub least : Sound xs → IfOk r (λ a. LeastAt (state_of xs).times a.station a.time)
  pub words : Sound xs → IfOk r (λ a. a.words ≡ words_of (state_of xs))

pub record Extracts (xs : List ℕ) (r : Result Least Refusal) (ys : List ℕ) : Type 0 where
  pub refusal : OnErr r (ys ≡ xs)
  pub names : Names xs r
  pub state : Sound xs → IfOk r (λ a. state_of ys ≡ unregistered (state_of xs) a.station)
  pub sound : Sound xs → Sound ys

-- "An opening doesn't depend on what its buffer held before"
pub record OpensCalendar (n a w : ℕ) (xs : List ℕ) (r : Result Unit Refusal) (ys : List ℕ) : Type 0 where
  pub refusal : OnErr r (ys ≡ xs)
  pub answer : verdict_of r ≡ judged (open_checks n a w (length xs))
  pub state : OnOk r (state_of ys ≡ opened_calendar n a w)
  pub sound : OnOk r (Sound ys)
