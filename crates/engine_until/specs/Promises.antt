-- What running to a time promises: which calls were made, and why it ended.
use Rattle.std.specs.Prelude.{◌≡◌, ◌≢◌, ◌⊎◌, List, [], ◌∷◌, ◌++◌, ℕ, ◌≤◌, length, Result, Ok, Err}
use Rattle.refusal.specs.declared.Refusal.{Refusal}
use Rattle.refusal.specs.Numbers.{number_of}
use Rattle.rules.specs.Engine.{RunLowest, Commit, Refused, Committed}
use Rattle.rules.specs.Demand.{Made, last_commit}
use Rattle.engine_answers.specs.declared.LowestAnswer.{LowestAnswer}
use Rattle.engine_answers.specs.declared.UntilError.{UntilError}
use Rattle.engine_answers.specs.declared.UntilError.TheVariants as U
use Rattle.engine_promises.specs.Answers.{lowest_said, commit_said}
use Rattle.engine_promises.specs.Promises.{Answered, Commits, TellsNext}
use Rattle.engine.specs.Session.{made}

-- run lowest calls and commits, refused ones among them, take the buffer from xs to ys and the lent output from os to ps: of each call what its contract
-- ensures
pub data Works : List ℕ → List ℕ → List Made → List ℕ → List ℕ → Type 0 where
  none : {xs os : List ℕ} → Works xs os [] xs os
  run : {xs ys zs os ps : List ℕ} {ms : List Made} (r : Result LowestAnswer Refusal) → Answered RunLowest (lowest_said r) xs ys → Works ys os ms zs ps
      → Works xs os (made RunLowest (lowest_said r) ∷ ms) zs ps
  commit : {xs ys zs os ns ps : List ℕ} {ms : List Made} (c : ℕ) (r : Result ℕ Refusal) → Commits (Commit c) (commit_said r) xs ys os ns → Works ys ns ms zs ps
      → Works xs os (made (Commit c os) (commit_said r ns) ∷ ms) zs ps

-- the last accepted commit of the calls is at c
abbrev pub Reaches : ℕ → List Made → Type 0
Reaches c ms = (now : ℕ) → last_commit now ms ≡ c

-- a call of these was refused with that number
abbrev pub Met : ℕ → List Made → Type 0
Met n [] = ⊥
Met n (m ∷ ms) = (m.said ≡ Refused n) ⊎ Met n ms

-- the number ends a run to a time: where no event is unrun (14), one is (15) or the places are full (17), there is more to do or another answer
abbrev pub Ending : ℕ → Type 0
Ending n = (n ≢ 14) × (n ≢ 15) × (n ≢ 17)

-- the calls end with a run that is refused with 17, and with a commit after it, at the least unrun time t, that finds nothing to write
pub record EndsBusy (t : ℕ) (xs os : List ℕ) (ms : List Made) : Type 0 where
  pub before : List Made
  -- the buffer where the run is refused
  pub full : List ℕ
  pub output : List ℕ
  pub works : Works xs os (before ++ (made RunLowest (Refused 17) ∷ [])) full output
  pub station : ℕ
  pub least : TellsNext full (Ok (record { station = station; time = t }))
  pub left : List ℕ
  pub ends : ms ≡ before ++ (made RunLowest (Refused 17) ∷ made (Commit t output) (Committed 0 left) ∷ [])

-- of the time, the turns, the buffer xs and the output os at entry, the answer r, and both at exit
pub record RunsUntil (time turns : ℕ) (xs os : List ℕ) (r : Result Unit UntilError) (ys ps : List ℕ) : Type 0 where
  pub calls : List Made
  pub works : Works xs os calls ys ps
  pub done : r ≡ Ok tt → Reaches time calls
  pub refused : (e : Refusal) → r ≡ Err (U.Refused e) → Met (number_of e) calls × Ending (number_of e)
  pub busy : (t : ℕ) → r ≡ Err (U.Busy t) → EndsBusy t xs os calls
  -- each turn made a call
  pub unfinished : r ≡ Err U.Unfinished → turns ≤ length calls
