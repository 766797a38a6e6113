-- The event order as relations of two events, and what holds of every element of a list.
use Rattle.std.specs.Prelude.{◌≡◌, true, false, List, [], ◌∷◌}
use Rattle.line.specs.declared.Event.{Event}
use Rattle.line.specs.Event.{before}

-- a is before b; a is not before b
pub record Lt (a b : Event) : Type 0 where
  pub is : before a b ≡ true

pub record Ge (a b : Event) : Type 0 where
  pub is : before a b ≡ false

-- one of the two comes first
pub data Differ (a b : Event) : Type 0 where
  fst : Lt a b → Differ a b
  snd : Lt b a → Differ a b

abbrev pub All : {A : Type 0} → (A → Type 0) → List A → Type 0
All P [] = Unit {0}
All P (x ∷ xs) = P x × All P xs
