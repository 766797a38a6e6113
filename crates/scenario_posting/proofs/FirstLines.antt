-- A text has one first line.
use mathlib.Core.Path.{◌≡◌, refl, sym, ap, ◌∙◌}
use mathlib.Core.Logic.{◌≢◌, inl, inr}
use mathlib.Core.Bool.{cond}
use mathlib.Core.List.{List, [], ◌∷◌, ◌++◌, append-nil}
use Prim.Native.Nat.{ℕ, suc, ◌+◌, ◌<◌}
use native.Mathlib.Omega.{arith}
use lib.Dec.{eqb}
use lib.ListN.{length, get_or}
use Rattle.line.specs.Order.{All}
use Rattle.line.proofs.Order.{Which, this, other, which}
use Rattle.scenario_posting.specs.Promises.{FirstLine}

-- no byte of it ends a line
abbrev pub Unended : List ℕ → Type 0
Unended l = All (λ b. b ≢ 10) l

-- the bytes up to the first that ends a line
up_to_end : List ℕ → List ℕ
up_to_end [] = []
up_to_end (b ∷ bs) = cond (eqb b 10) [] (b ∷ up_to_end bs)

stays : (b : ℕ) (l : List ℕ) → b ≢ 10 → up_to_end (b ∷ l) ≡ b ∷ up_to_end l
unfolding up_to_end
stays b l n = go (which b 10)
  where
    go : Which b 10 → cond (eqb b 10) [] (b ∷ up_to_end l) ≡ b ∷ up_to_end l
    go (this k e) = absurd (n k)
    go (other k e) = rw e

front : (l u : List ℕ) → Unended l → up_to_end u ≡ [] → up_to_end (l ++ u) ≡ l
front [] u n e = e
front (b ∷ l) u n e = stays b (l ++ u) n.0 ∙ ap (λ (t : List ℕ). b ∷ t) (front l u n.1 e)

ended : (u : List ℕ) → up_to_end (10 ∷ u) ≡ []
unfolding up_to_end
ended u = refl

nothing : up_to_end [] ≡ []
unfolding up_to_end
nothing = refl

first : (l text : List ℕ) → Unended l → FirstLine l text → up_to_end text ≡ l
first l text n (inl e) = ap up_to_end (e ∙ sym (append-nil l)) ∙ front l [] n nothing
first l text n (inr r) = ap up_to_end r.1 ∙ front l (10 ∷ r.0) n (ended r.0)

pub one_line : (l m text : List ℕ) → Unended l → Unended m → FirstLine l text → FirstLine m text → l ≡ m
one_line l m text u v p q = sym (first l text u p) ∙ first m text v q

-- byte by byte
pub unended_at : (l : List ℕ) → ((i : ℕ) → i < length l → get_or l i 0 ≢ 10) → Unended l
unended_at [] f = tt
unended_at (b ∷ l) f = (f 0 (omega arith), unended_at l (λ i h. f (suc i) (omega (arith, h))))
