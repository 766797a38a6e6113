-- The claim: an opening and any list of calls after it, each known by what its contract ensures, and demand 3 of them: "All of this is a single claim
-- about the whole list and not one for each call" (document 01, "Plain machine").
use Rattle.std.specs.Prelude.{◌≡◌, List, [], ◌∷◌, ℕ, ◌<◌, length, Result, Ok, Err}
use Rattle.refusal.specs.declared.Refusal.{Refusal}
use Rattle.refusal.specs.Tests.{judged}
use Rattle.refusal.specs.Cases.{checks_of}
use Rattle.line.specs.declared.State.{State}
use Rattle.rules.specs.Machine.{Machine}
use Rattle.rules.specs.Engine.{Setting, chosen, Engine, opened, Call, Post, Retract, RunStation, RunLowest, Commit, Record, Answer, Recorded}
use Rattle.rules.specs.Demand.{Made, Calls, Comes, Demand}
use Rattle.engine_answers.specs.declared.PostAnswer.{PostAnswer}
use Rattle.engine_answers.specs.declared.RunAnswer.{RunAnswer}
use Rattle.engine_answers.specs.declared.LowestAnswer.{LowestAnswer}
use Rattle.plan_format.specs.Line.{line_of}
use Rattle.engine_promises.specs.Represents.{Represents}
use Rattle.engine_promises.specs.Answers.{open_says, post_said, retract_said, run_said, lowest_said, commit_said, record_said}
use Rattle.engine_promises.specs.Promises.{open_cases, Opens, Answered, Commits}

abbrev pub made : Call → Answer → Made
made call answer = record { asked = call; said = answer }

-- the calls, refused ones among them, take the buffer from xs to ys: of each call what its contract ensures
pub data Chain : List ℕ → List Made → List ℕ → Type 0 where
  end : {xs : List ℕ} → Chain xs [] xs
  post : {xs ys zs : List ℕ} {ms : List Made} {s t kind value : ℕ} (r : Result PostAnswer Refusal) → Answered (Post s t kind value) (post_said r) xs ys → Chain ys ms zs
      → Chain xs (made (Post s t kind value) (post_said r) ∷ ms) zs
  retract : {xs ys zs : List ℕ} {ms : List Made} {n : ℕ} (r : Result ℕ Refusal) → Answered (Retract n) (retract_said r) xs ys → Chain ys ms zs
      → Chain xs (made (Retract n) (retract_said r) ∷ ms) zs
  run_station : {xs ys zs : List ℕ} {ms : List Made} {s : ℕ} (r : Result RunAnswer Refusal) → Answered (RunStation s) (run_said r) xs ys → Chain ys ms zs
      → Chain xs (made (RunStation s) (run_said r) ∷ ms) zs
  run_lowest : {xs ys zs : List ℕ} {ms : List Made} (r : Result LowestAnswer Refusal) → Answered RunLowest (lowest_said r) xs ys → Chain ys ms zs
      → Chain xs (made RunLowest (lowest_said r) ∷ ms) zs
  commit : {xs ys zs output left : List ℕ} {ms : List Made} {c : ℕ} (r : Result ℕ Refusal) → Commits (Commit c) (commit_said r) xs ys output left → Chain ys ms zs
      → Chain xs (made (Commit c output) (commit_said r left) ∷ ms) zs
  record_call : {xs zs : List ℕ} {ms : List Made} {s : ℕ} (r : Result State Refusal) → Answered (Record s) (record_said r) xs xs → Chain xs ms zs
      → Chain xs (made (Record s) (record_said r) ∷ ms) zs

-- what is claimed of a list of calls after an accepted opening that chose the setting, which leave the buffer ys
pub record Whole (plan : List ℕ) (setting : Setting) (ms : List Made) (ys : List ℕ) : Type 0 where
  -- every answer and every acceptance is the documents'
  pub engine : Engine
  pub calls : Calls (line_of plan) (opened (line_of plan) setting) ms engine
  -- the bytes stand for the engine that the rules reach
  pub stands : Represents (line_of plan) engine ys
  -- the joined logs are the machine's, and each record in the list is its state
  pub demand : Demand (line_of plan) ms
  -- the machine comes to no other state
  pub one_machine : (k : Machine) → Comes (line_of plan) ms k → k ≡ demand.machine
  -- each station's record, asked then, is the machine's state of that station
  pub records_then : (s : ℕ) → s < (line_of plan).count → (r : Result State Refusal) → Answered (Record s) (record_said r) ys ys
      → record_said r ≡ Recorded (demand.machine.states s)

-- what is claimed of an opening, accepted or not, and of every list of calls after an accepted one
pub record Session (plan : List ℕ) (arity width capacity : ℕ) (before : List ℕ) (r : Result Unit Refusal) (xs : List ℕ) : Type 0 where
  -- it is accepted exactly where none of the documents' numbers refuses it; a refusal "changes nothing"
  pub opening : open_says r ≡ judged (checks_of (open_cases plan arity width capacity (length before)))
  pub refusal : (e : Refusal) → r ≡ Err e → xs ≡ before
  pub whole : r ≡ Ok tt → (ys : List ℕ) (ms : List Made) → Chain xs ms ys → Whole plan (chosen arity width capacity) ms ys

abbrev pub Claim : Type 0
Claim =
    (plan : List ℕ) (arity width capacity : ℕ) (before : List ℕ) (r : Result Unit Refusal) (xs : List ℕ) → Opens plan arity width capacity before r xs
    → Session plan arity width capacity before r xs
