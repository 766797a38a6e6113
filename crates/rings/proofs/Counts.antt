-- Membership by counts: how often a node stands in a list, in its parts and at its ends.
use mathlib.Core.Path.{◌≡◌, refl}
use mathlib.Core.Logic.{◌≢◌}
use mathlib.Core.Bool.{Bool, true, false, cond}
use mathlib.Core.List.{List, [], ◌∷◌, ◌++◌}
use Prim.Native.Nat.{ℕ, ◌+◌, ◌<◌, ◌≤◌}
use native.Mathlib.Decide.{dec_lt}
use native.Mathlib.Omega.{arith}
use borrow.Author.Tests.{eq-eqb, ne_eqb}
use lib.Dec.{eqb}
use Rattle.rings.specs.Ring.{hit, occurs, last_of, head_of}

pub hit_same : (i : ℕ) → hit i i ≡ 1
unfolding hit
hit_same i = rw (eq-eqb i i refl)

pub hit_ne : (i x : ℕ) → i ≢ x → hit i x ≡ 0
unfolding hit
hit_ne i x d = rw (ne_eqb i x d)

pub hit_le : (i x : ℕ) → hit i x ≤ 1
unfolding hit
hit_le i x = go (eqb i x)
  where
    go : (b : Bool) → cond b 1 0 ≤ 1
    go true = omega arith
    go false = omega arith

-- a node that does not count is another one
pub other : {i x : ℕ} → hit i x ≡ 0 → x ≢ i
other {i} {x} h e = let z : hit i x ≡ 1 = rw e (hit_same i) in omega arith

pub occurs_append : (i : ℕ) (xs ys : List ℕ) → occurs i (xs ++ ys) ≡ occurs i xs + occurs i ys
occurs_append i [] ys = omega arith
occurs_append i (x ∷ xs) ys = omega (arith, occurs_append i xs ys)

pub occurs_last : (a : ℕ) (xs : List ℕ) → 1 ≤ occurs (last_of a xs) (a ∷ xs)
occurs_last a [] = omega (arith, hit_same a)
occurs_last a (x ∷ xs) = omega (arith, occurs_last x xs)

pub occurs_head : (zs : List ℕ) (s : ℕ) → 1 ≤ occurs (head_of zs s) (s ∷ zs)
occurs_head [] s = omega (arith, hit_same s)
occurs_head (z ∷ zs) s = omega (arith, hit_same z)

-- the members of a list are below n
pub under : (n : ℕ) (l : List ℕ) → ((i : ℕ) → n ≤ i → occurs i l ≡ 0) → (i : ℕ) → 1 ≤ occurs i l → i < n
under n l w i h = go (dec_lt i n)
  where
    go : Dec (i < n) → i < n
    go (yes k) = k
    go (no f) = absurd (omega (arith, w i (omega arith)))

-- what is not in a list is none of its members
pub unlike : (l : List ℕ) (x a : ℕ) → occurs x l ≡ 0 → 1 ≤ occurs a l → x ≢ a
unlike l x a h k e = let z : 1 ≤ occurs x l = rw e k in omega arith
