-- Whether a registered time lies before a floor is told by the least.
use mathlib.Core.Path.{◌≡◌, ◌∙◌}
use mathlib.Core.Bool.{Bool, false}
use mathlib.Core.List.{List}
use Prim.Native.Nat.{ℕ}
use lib.Dec.{ltb}
use Rattle.refusal.specs.declared.Refusal.{Refusal}
use Rattle.refusal.specs.Numbers.{number_of}
use Rattle.std.specs.Prelude.{Result, Ok, Err, MatchResult}
use Rattle.calendar_answers.specs.declared.Least.{Least}
use Rattle.calendar_header.specs.Rules.{any_before}
use Rattle.calendar_header.specs.Bytes.{Sound, state_of}
use Rattle.calendar_header.specs.Promises.{Names}
use Rattle.calendar_header.proofs.Tests.{any_least, any_none}
use Rattle.calendar_naming.proofs.Naming.{refused_idle}

module _ (xs : List ℕ) (f : ℕ) (S : Sound xs) where
  pub early : (r : Result Least Refusal) (b : Bool) → Names xs r → MatchResult r (λ a. b ≡ ltb a.time f) (λ _. b ≡ false)
      → b ≡ any_before f (state_of xs).times
  early (Ok a) b N h = h ∙ any_least f (state_of xs).times a.station a.time (N.least S)
  early (Err e) b N h = h ∙ any_none f (state_of xs).times (refused_idle xs (number_of e) (N.answer S))
