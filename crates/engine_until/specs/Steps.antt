-- What the private steps ensure; no promise to a caller cites these.
use Rattle.std.specs.Prelude.{◌≡◌, cond, ◌≢◌, List, [], ◌∷◌, ◌++◌, ℕ, ◌≤◌, length, ltb, Bool, true, false, Result, Ok, Err}
use Rattle.refusal.specs.declared.Refusal.{Refusal}
use Rattle.refusal.specs.Numbers.{number_of}
use Rattle.rules.specs.Engine.{RunLowest, Refused}
use Rattle.rules.specs.Demand.{Made}
use Rattle.engine_answers.specs.declared.NextAnswer.{NextAnswer}
use Rattle.engine_answers.specs.declared.UntilError.{UntilError}
use Rattle.engine_answers.specs.declared.UntilError.TheVariants as U
use Rattle.engine_promises.specs.Promises.{TellsNext}
use Rattle.engine.specs.Session.{made}
use Rattle.engine_until.specs.Promises.{Works, Reaches, Met, Ending, EndsBusy}

-- after a refusal there is more to do, or it is the end
pub data Goes (e : Refusal) : Result Bool UntilError → Type 0 where
  on : Goes e (Ok false)
  ends : Ending (number_of e) → Goes e (Err (U.Refused e))

-- the least unrun time, where it is before the time; else the time
abbrev pub front_of : ℕ → Result NextAnswer Refusal → ℕ
front_of time (Ok a) = cond (ltb a.time time) a.time time
front_of time (Err e) = time

pub record Fronts (time : ℕ) (xs : List ℕ) (r : ℕ) : Type 0 where
  pub answer : Result NextAnswer Refusal
  pub told : TellsNext xs answer
  pub front : r ≡ front_of time answer

-- runs alone, on any output; a refused stretch's list ends with the refused run
pub record Stretches (xs : List ℕ) (r : Result Unit Refusal) (ys : List ℕ) : Type 0 where
  pub calls : List Made
  pub works : (os : List ℕ) → Works xs os calls ys os
  pub ends : (e : Refusal) → r ≡ Err e → (before : List Made) × (calls ≡ before ++ (made RunLowest (Refused (number_of e)) ∷ []))

-- after a stretch s and a commit at c that wrote so many events
pub data Settles (s : Result Unit Refusal) (c count time : ℕ) : Result Bool UntilError → Type 0 where
  reached : c ≡ time → Settles s c count time (Ok true)
  ran : Settles s c count time (Ok false)
  busy : (e : Refusal) → c ≢ time → s ≡ Err e → number_of e ≡ 17 → count ≡ 0 → Settles s c count time (Err (U.Busy c))
  refused : (e : Refusal) {r : Result Bool UntilError} → s ≡ Err e → Goes e r → Settles s c count time r

-- what the calls, from the buffer xs and the output os, say where the run to the time fails so
abbrev pub EndsFor : List ℕ → List ℕ → List Made → UntilError → Type 0
EndsFor xs os ms (U.Refused e) = Met (number_of e) ms × Ending (number_of e)
EndsFor xs os ms (U.Busy t) = EndsBusy t xs os ms
EndsFor xs os ms U.Unfinished = ⊥

-- is the time reached?
abbrev pub StepsTo : ℕ → List ℕ → List ℕ → List Made → Result Bool UntilError → Type 0
StepsTo time xs os ms (Ok true) = Reaches time ms
StepsTo time xs os ms (Ok false) = Unit
StepsTo time xs os ms (Err u) = EndsFor xs os ms u

-- of the time, the buffer xs and the output os at entry, the step r, and both at exit
pub record Turns (time : ℕ) (xs os : List ℕ) (r : Result Bool UntilError) (ys ps : List ℕ) : Type 0 where
  pub calls : List Made
  pub works : Works xs os calls ys ps
  pub some : 1 ≤ length calls
  pub steps : StepsTo time xs os calls r
