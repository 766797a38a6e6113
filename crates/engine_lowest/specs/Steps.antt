-- What the call's private steps ensure; no promise to a caller cites these.
use Rattle.std.specs.Prelude.{◌≡◌, List, ℕ, Result}
use Rattle.refusal.specs.declared.Refusal.{Refusal}
use Rattle.line.specs.Station.{Plan}
use Rattle.rules.specs.Held.{Lowest}
use Rattle.rules.specs.Engine.{Engine, RunLowest}
use Rattle.rules.specs.Calls.{lowest_words}
use Rattle.engine_promises.specs.Represents.{Represents}
use Rattle.engine_promises.specs.Steps.{JudgesAndFinds, Numbered}
use Rattle.engine_lowest.specs.declared.LowestRun.{LowestRun}

-- s is the station that the calendar names, and w the bitmap words that it read
pub record LowestIs (n c s w : ℕ) (xs : List ℕ) : Type 0 where
  pub numbers : Numbered n c xs
  pub lowest : (p : Plan) (e : Engine) → Represents p e xs → Lowest e.queue.held s
  pub words : (p : Plan) (e : Engine) → Represents p e xs → w ≡ lowest_words p e

abbrev pub JudgesLowest : List ℕ → Result LowestRun Refusal → Type 0
JudgesLowest xs r = JudgesAndFinds RunLowest xs r (λ f. LowestIs f.n f.c f.station f.words xs)
