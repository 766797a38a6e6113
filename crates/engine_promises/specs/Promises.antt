-- What each call promises, on any bytes and on those that stand for an engine.
use Rattle.std.specs.Prelude.{◌≡◌, true, List, [], ◌∷◌, ◌++◌, ℕ, length, Result, Ok, Err}
use Rattle.refusal.specs.declared.Refusal.{Refusal}
use Rattle.refusal.specs.declared.Refusal.TheVariants.{Arity, Width, Space, Idle}
use Rattle.refusal.specs.Numbers.{stations_of}
use Rattle.refusal.specs.Tests.{arity_out, width_out, engine_space_out, judged}
use Rattle.refusal.specs.Cases.{Case, gives, first_of, checks_of}
use Rattle.line.specs.Station.{Plan}
use Rattle.rules.specs.Held.{Held, Lowest, none_unrun}
use Rattle.rules.specs.Engine.{chosen, Engine, opened, Call, Answer, Refused}
use Rattle.rules.specs.Calls.{Answers}
use Rattle.plan_format.specs.Plan.{count}
use Rattle.plan_format.specs.Reading.{plan_cases}
use Rattle.engine_answers.specs.declared.NextAnswer.{NextAnswer}
use Rattle.plan_format.specs.Line.{line_of}
use Rattle.engine_promises.specs.Represents.{Represents}
use Rattle.engine_promises.specs.Answers.{open_says, open_station}

-- ---- open

-- the opening gives 1 to 5 of the plan, then 26, 6 and 7 ("26: arity not among the four, checked before 6", document 02, change 9)
abbrev pub choice_cases : ℕ → ℕ → ℕ → ℕ → ℕ → List Case
choice_cases n arity width capacity bytes =
    gives Arity (arity_out arity) ∷ gives Width (width_out width) ∷ gives Space (engine_space_out arity n capacity bytes) ∷ []

abbrev pub open_cases : List ℕ → ℕ → ℕ → ℕ → ℕ → List Case
open_cases plan arity width capacity bytes = plan_cases plan ++ choice_cases (count plan) arity width capacity bytes

-- of the plan's bytes, the buffer xs at entry, the answer r and the buffer ys at exit. "An opening doesn't depend on what its buffer held before"
pub record Opens (plan : List ℕ) (arity width capacity : ℕ) (xs : List ℕ) (r : Result Unit Refusal) (ys : List ℕ) : Type 0 where
  pub answer : r ≡ first_of Err (open_cases plan arity width capacity (length xs)) (Ok tt)
  pub number : open_says r ≡ judged (checks_of (open_cases plan arity width capacity (length xs)))
  pub station : open_station r ≡ first_of stations_of (open_cases plan arity width capacity (length xs)) []
  pub refusal : (e : Refusal) → r ≡ Err e → ys ≡ xs
  pub opens : r ≡ Ok tt → Represents (line_of plan) (opened (line_of plan) (chosen arity width capacity)) ys

-- ---- the calls after it

-- the engine e, asked the call, gives the answer and becomes one that the bytes ys stand for
pub record Becomes (p : Plan) (e : Engine) (asked : Call) (said : Answer) (ys : List ℕ) : Type 0 where
  pub after : Engine
  pub answers : Answers p e asked said after
  pub represents : Represents p after ys

-- of the call, its answer, the buffer xs at entry and ys at exit
pub record Answered (asked : Call) (said : Answer) (xs ys : List ℕ) : Type 0 where
  pub refusal : (n : ℕ) → said ≡ Refused n → ys ≡ xs
  pub answer : (p : Plan) (e : Engine) → Represents p e xs → Becomes p e asked said ys

-- of a commit also the output, at entry and at exit
pub record Commits (asked : List ℕ → Call) (said : List ℕ → Answer) (xs ys output left : List ℕ) : Type 0 where
  pub answered : Answered (asked output) (said left) xs ys
  pub refusal : (n : ℕ) → said left ≡ Refused n → left ≡ output

-- ---- the least unrun time, which changes nothing

-- a station of least time, with that time; 14 where no event is unrun
abbrev pub NextIs : List Held → Result NextAnswer Refusal → Type 0
NextIs h (Ok a) = (l : Lowest h a.station) × (l.time ≡ a.time)
NextIs h (Err e) = (e ≡ Idle) × (none_unrun h ≡ true)

pub record TellsNext (xs : List ℕ) (r : Result NextAnswer Refusal) : Type 0 where
  pub told : (p : Plan) (e : Engine) → Represents p e xs → NextIs e.queue.held r
