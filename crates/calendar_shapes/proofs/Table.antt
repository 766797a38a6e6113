-- The rule of the table of shapes, by one test that is computed over all rows.
use mathlib.Core.Path.{◌≡◌, sym, subst, ◌∙◌}
use mathlib.Core.Bool.{Bool, true, false}
use mathlib.Core.List.{List, [], ◌∷◌}
use Prim.Native.Nat.{ℕ, zero, suc, ◌+◌, ◌*◌, ◌^◌, ◌<◌}
use native.Mathlib.Nat.{add-zero, zero-add, add-suc, suc-add}
use native.Mathlib.Decide.{ℕ_discrete}
use native.Mathlib.Omega.{arith}
use lib.Dec.{T, eqb, eqb→eq}
use lib.ListN.{length, get_or}
use Rattle.calendar_shapes.specs.declared.Shape.{Shape}
use Rattle.calendar_shapes.specs.Rule.{Right}

abbrev both : Bool → Bool → Bool
both true b = b
both false b = false

both_left : (a b : Bool) → T (both a b) → T a
both_left true b t = tt
both_left false b t = t

both_right : (a b : Bool) → T (both a b) → T b
both_right true b t = t
both_right false b t = absurd t

-- the test of a row
abbrev test : ℕ → Shape → Bool
test i q = both (eqb q.arity (2 ^ (3 + i))) (both (eqb q.leaves (q.arity * q.arity)) (eqb q.words (q.arity + 1)))

-- a row that passes is right
passed : (i : ℕ) (q : Shape) → T (test i q) → Right i q
passed i q t =
    let t1 = both_right (eqb q.arity (2 ^ (3 + i))) _ t in
    record {
      arity_is = eqb→eq q.arity (2 ^ (3 + i)) (both_left (eqb q.arity (2 ^ (3 + i))) _ t);
      leaves_is = eqb→eq q.leaves (q.arity * q.arity) (both_left (eqb q.leaves (q.arity * q.arity)) _ t1);
      words_is = eqb→eq q.words (q.arity + 1) (both_right (eqb q.leaves (q.arity * q.arity)) _ t1);
    }

abbrev every : ℕ → List Shape → Bool
every i [] = true
every i (q ∷ qs) = both (test i q) (every (suc i) qs)

from : (qs : List Shape) (i : ℕ) (d : Shape) → T (every i qs) → (k : ℕ) → k < length qs → Right (i + k) (get_or qs k d)
from [] i d t k h = absurd (omega arith)
from (q ∷ qs) i d t zero h = subst (λ (m : ℕ). Right m q) (sym (add-zero i)) (passed i q (both_left (test i q) (every (suc i) qs) t))
from (q ∷ qs) i d t (suc k) h =
    subst (λ (m : ℕ). Right m (get_or qs k d)) (suc-add i k ∙ sym (add-suc i k)) (from qs (suc i) d (both_right (test i q) (every (suc i) qs) t) k (omega arith))

-- each row of a table that passes is right
at : (qs : List Shape) (d : Shape) → T (every 0 qs) → (k : ℕ) → k < length qs → Right k (get_or qs k d)
at qs d t k h = subst (λ (m : ℕ). Right m (get_or qs k d)) (zero-add k) (from qs 0 d t k h)

-- no row up to i has the arity
pub none_more : (a i : ℕ) (q : Shape) → Right i q → (q.arity ≡ a → ⊥) → ((k : ℕ) → k < i → a ≡ 2 ^ (3 + k) → ⊥) → (k : ℕ) → k < i + 1 → a ≡ 2 ^ (3 + k) → ⊥
none_more a i q r ne h k lk e = go (ℕ_discrete k i)
  where
    go : Dec (k ≡ i) → ⊥
    go (yes p) = ne (r.arity_is ∙ sym (subst (λ (m : ℕ). a ≡ 2 ^ (3 + m)) p e))
    go (no n) = h k (omega arith) e

-- the rows of the source
abbrev rows : List Shape
rows =
    record { arity = 8; leaves = 64; words = 9 } ∷ record { arity = 16; leaves = 256; words = 17 } ∷ record { arity = 32; leaves = 1024; words = 33 }
    ∷ record { arity = 64; leaves = 4096; words = 65 } ∷ []

pub row_right : (k : ℕ) → k < 4 → Right k (get_or rows k (record { arity = 0; leaves = 0; words = 0 }))
row_right k h = at rows (record { arity = 0; leaves = 0; words = 0 }) tt k h
