-- What a run promises whose station is known.
use Rattle.std.specs.Prelude.{◌≡◌, List, ℕ, Result}
use Rattle.refusal.specs.declared.Refusal.{Refusal}
use Rattle.line.specs.Station.{Plan}
use Rattle.rules.specs.Engine.{Engine, RunStation, Refused}
use Rattle.engine_answers.specs.declared.RunAnswer.{RunAnswer}
use Rattle.engine_promises.specs.Represents.{Represents}
use Rattle.engine_promises.specs.Answers.{run_said}
use Rattle.engine_promises.specs.Promises.{Becomes}

-- run station and run lowest, once the station is known: on any bytes, and on those that stand for an engine of n stations and c slots
pub record RunsAt (n c s : ℕ) (r : Result RunAnswer Refusal) (xs ys : List ℕ) : Type 0 where
  pub refusal : (k : ℕ) → run_said r ≡ Refused k → ys ≡ xs
  pub answer : (p : Plan) (e : Engine) → Represents p e xs → p.count ≡ n → e.setting.capacity ≡ c → Becomes p e (RunStation s) (run_said r) ys
