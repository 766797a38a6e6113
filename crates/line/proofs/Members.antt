-- What holds of every element of a list: of each member, and of two lists joined.
use mathlib.Core.Path.{refl, sym, subst}
use mathlib.Core.List.{List, [], ◌∷◌, ◌++◌, Memᴰ}
use Rattle.line.specs.Order.{All}

pub all_in : {A : Type 0} (P : A → Type 0) {z : A} {h : List A} → Memᴰ z h → All P h → P z
all_in P (Memᴰ.head e) a = subst P (sym e) a.0
all_in P (Memᴰ.tail m) a = all_in P m a.1

pub in_all : {A : Type 0} (P : A → Type 0) (h : List A) → ((z : A) → Memᴰ z h → P z) → All P h
in_all P [] f = tt
in_all P (y ∷ h) f = (f y (Memᴰ.head refl), in_all P h (λ z m. f z (Memᴰ.tail m)))

pub all_append : {A : Type 0} (P : A → Type 0) (xs ys : List A) → All P xs → All P ys → All P (xs ++ ys)
all_append P [] ys a b = b
all_append P (x ∷ xs) ys a b = (a.0, all_append P xs ys a.1 b)
