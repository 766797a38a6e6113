-- What holds of every element of a list, and of any two.
use mathlib.Core.List.{List, [], ◌∷◌, ◌++◌}
use Rattle.line.specs.declared.Event.{Event}
use Rattle.line.specs.Order.{Differ, All}

pub all_map : {A : Type 0} {P Q : A → Type 0} → ((x : A) → P x → Q x) → (xs : List A) → All P xs → All Q xs
all_map f [] a = tt
all_map f (x ∷ xs) a = (f x a.0, all_map f xs a.1)

pub all_both : {A : Type 0} {P Q R : A → Type 0} → ((x : A) → P x → Q x → R x) → (xs : List A) → All P xs → All Q xs → All R xs
all_both f [] a b = tt
all_both f (x ∷ xs) a b = (f x a.0 b.0, all_both f xs a.1 b.1)

pub all_snoc : {A : Type 0} (P : A → Type 0) (xs : List A) (y : A) → All P xs → P y → All P (xs ++ (y ∷ []))
all_snoc P [] y a h = (h, tt)
all_snoc P (x ∷ xs) y a h = (a.0, all_snoc P xs y a.1 h)

-- any two events of the list differ
abbrev pub Distinct : List Event → Type 0
Distinct [] = Unit {0}
Distinct (x ∷ xs) = All (Differ x) xs × Distinct xs

pub distinct_snoc : (xs : List Event) (y : Event) → All (λ x. Differ x y) xs → Distinct xs → Distinct (xs ++ (y ∷ []))
distinct_snoc [] y a d = (tt, tt)
distinct_snoc (x ∷ xs) y a d = (all_snoc (Differ x) xs y d.0 a.0, distinct_snoc xs y a.1 d.1)
