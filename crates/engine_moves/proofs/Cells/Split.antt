-- A cell of a list stands between those before it and those after it; the others stay where it changes or leaves.
use mathlib.Core.Path.{◌≡◌, refl, sym, ap, ◌∙◌, subst}
use mathlib.Core.Logic.{◌⊎◌, inl, inr}
use mathlib.Core.List.Memᴰ
use mathlib.Core.List.{List, [], ◌∷◌, ◌++◌}
use Prim.Native.Nat.{ℕ, suc}
use native.Mathlib.Omega.{arith}
use lib.ListN.{length, length-append}
use Rattle.line.specs.declared.Event.{Event}
use Rattle.line.specs.declared.State.{State}
use Rattle.rules.specs.Held.{Held, unrun, ran, event, In}
use Rattle.engine_index.specs.Represents.{Cell, cell}
use Rattle.engine_index.proofs.Changes.ToRules as rules
use Rattle.engine_events.specs.Represents.{held_of, Has, From}

-- ---- the two parts

pub record Split (y : Cell) (cells : List Cell) : Type 0 where
  pub front : List Cell
  pub back : List Cell
  pub whole : cells ≡ front ++ y ∷ back

pub split : (y : Cell) (cells : List Cell) → Has y cells → Split y cells
split y [] m = elim m [ ]
split y (z ∷ cells) (Memᴰ.head e) = record { front = []; back = cells; whole = rw e }
split y (z ∷ cells) (Memᴰ.tail m) =
    let r = split y cells m in
    record { front = z ∷ r.front; back = r.back; whole = ap (λ l. z ∷ l) r.whole }

-- what holds of each such list holds of this one
pub at_split : (P : List Cell → Type 0) (y : Cell) (cells : List Cell) → Has y cells → ((A B : List Cell) → P (A ++ y ∷ B)) → P cells
at_split P y cells m f = let r = split y cells m in subst P (sym r.whole) (f r.front r.back)

-- ---- the cells beside it

-- one of A ++ y ∷ B is y or one of A ++ B
pub beside_or : (A : List Cell) (y : Cell) (B : List Cell) {z : Cell} → Has z (A ++ y ∷ B) → (z ≡ y) ⊎ Has z (A ++ B)
beside_or A y B {z} m = go (Memᴰ.append_cases A m)
  where
    on : (z ≡ y) ⊎ Has z B → (z ≡ y) ⊎ Has z (A ++ B)
    on (inl e) = inl e
    on (inr k) = inr (Memᴰ.append_right A k)

    go : Has z A ⊎ Has z (y ∷ B) → (z ≡ y) ⊎ Has z (A ++ B)
    go (inl k) = inr (Memᴰ.append_left B k)
    go (inr k) = on (Memᴰ.cases_cons k)

pub beside_in : (A : List Cell) (y : Cell) (B : List Cell) {z : Cell} → Has z (A ++ B) → Has z (A ++ y ∷ B)
beside_in A y B {z} m = go (Memᴰ.append_cases A m)
  where
    go : Has z A ⊎ Has z B → Has z (A ++ y ∷ B)
    go (inl k) = Memᴰ.append_left (y ∷ B) k
    go (inr k) = Memᴰ.append_right A (Memᴰ.tail k)

-- a run one is another than an unrun one
pub run_beside : (A : List Cell) (x : ℕ) (e : Event) (B : List Cell) (i : ℕ) (f : Event) (g : State) → Has (cell i (ran f g)) (A ++ cell x (unrun e) ∷ B)
    → Has (cell i (ran f g)) (A ++ B)
run_beside A x e B i f g m = go (beside_or A (cell x (unrun e)) B m)
  where
    go : (cell i (ran f g) ≡ cell x (unrun e)) ⊎ Has (cell i (ran f g)) (A ++ B) → Has (cell i (ran f g)) (A ++ B)
    go (inl z) =
        let w : ran f g ≡ unrun e = ap (λ (u : Cell). u.held) z in
        let k : ◌≡◌ {A = ℕ} 0 1 = cc in
        absurd (omega arith)
    go (inr k) = k

pub middle_in : (A : List Cell) (y : Cell) (B : List Cell) → Has y (A ++ y ∷ B)
middle_in A y B = Memᴰ.append_right A (Memᴰ.head refl)

-- ---- where the cells come from

-- one joins
pub from_join : (A : List Cell) (y : Cell) (B : List Cell) → From (y ∷ (A ++ B)) (A ++ y ∷ B)
from_join A y B z m = go (beside_or A y B m)
  where
    go : (z ≡ y) ⊎ Has z (A ++ B) → (h : Held) × Has (cell z.node h) (y ∷ (A ++ B)) × (event h ≡ event z.held)
    go (inl e) = (z.held, Memᴰ.head e, refl)
    go (inr k) = (z.held, Memᴰ.tail k, refl)

-- one leaves
pub from_leave : (A : List Cell) (y : Cell) (B : List Cell) → From (A ++ y ∷ B) (A ++ B)
from_leave A y B z m = (z.held, beside_in A y B m, refl)

-- one is run or unrun
pub from_swap : (A : List Cell) (x : ℕ) (h k : Held) (B : List Cell) → event h ≡ event k → From (A ++ cell x h ∷ B) (A ++ cell x k ∷ B)
from_swap A x h k B e z m = go (beside_or A (cell x k) B m)
  where
    go : (z ≡ cell x k) ⊎ Has z (A ++ B) → (g : Held) × Has (cell z.node g) (A ++ cell x h ∷ B) × (event g ≡ event z.held)
    go (inl q) = rw q (h, middle_in A (cell x h) B, e)
    go (inr i) = (z.held, beside_in A (cell x h) B i, refl)

-- ---- how many

pub length_middle : (A : List Cell) (y : Cell) (B : List Cell) → length (A ++ y ∷ B) ≡ suc (length (A ++ B))
length_middle A y B = simp length-append (omega arith)

pub length_swap : (A : List Cell) (y z : Cell) (B : List Cell) → length (A ++ z ∷ B) ≡ length (A ++ y ∷ B)
length_swap A y z B = length_middle A z B ∙ sym (length_middle A y B)

-- ---- their held events

pub held_map : (cells : List Cell) → held_of cells ≡ rules.held_of cells
held_map [] = refl
held_map (y ∷ ys) = ap (λ l. y.held ∷ l) (held_map ys)

pub held_in : (cells : List Cell) (y : Cell) → Has y cells → In y.held (held_of cells)
held_in [] y m = elim m [ ]
held_in (z ∷ cells) y (Memᴰ.head e) = Memᴰ.head (ap (λ (c : Cell). c.held) e)
held_in (z ∷ cells) y (Memᴰ.tail m) = Memᴰ.tail (held_in cells y m)

pub in_held : (cells : List Cell) (h : Held) → In h (held_of cells) → (x : ℕ) × Has (cell x h) cells
in_held [] h m = elim m [ ]
in_held (z ∷ cells) h (Memᴰ.head e) = (z.node, Memᴰ.head (ap (cell z.node) e))
in_held (z ∷ cells) h (Memᴰ.tail m) = let r = in_held cells h m in (r.0, Memᴰ.tail r.1)
