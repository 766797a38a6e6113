-- Refusals in checking order: of a call whose answer is an enum, the refusals that it may give, each with whether what its number says is so
-- (document 01, "What each number says, in checking order").
use Rattle.std.specs.Prelude.{Bool, cond, List, [], ◌∷◌}
use Rattle.refusal.specs.declared.Refusal.{Refusal}
use Rattle.refusal.specs.Numbers.{number_of}
use Rattle.refusal.specs.Tests.{Check, says}

pub record Case : Type 0 where
  pub refusal : Refusal
  pub holds : Bool

abbrev pub gives : Refusal → Bool → Case
gives e b = record { refusal = e; holds = b }

-- what is made of the first refusal that holds; the other where none does
abbrev pub first_of : {A : Type 0} → (Refusal → A) → List Case → A → A
first_of refuse [] done = done
first_of refuse (c ∷ cs) done = cond c.holds (refuse c.refusal) (first_of refuse cs done)

-- the same refusals by their numbers
abbrev pub checks_of : List Case → List Check
checks_of [] = []
checks_of (c ∷ cs) = says (number_of c.refusal) c.holds ∷ checks_of cs
