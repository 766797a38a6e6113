-- Rings, over any reading nx, pv of the links: nx i is the node after node i, pv i the node before it. Families of rings in one table.
use Rattle.std.specs.Prelude.{◌≡◌, cond, List, [], ◌∷◌, ◌++◌, ℕ, ◌+◌, ◌*◌, ◌≤◌, ◌<◌, eqb, length}
use Rattle.words.specs.Sums.{sum_to}
use Rattle.rings.specs.Table.{next_of, prev_of}

-- how often i stands in a list
unfoldable pub hit : ℕ → ℕ → ℕ
hit i x = cond (eqb i x) 1 0

abbrev pub occurs : ℕ → List ℕ → ℕ
occurs i [] = 0
occurs i (x ∷ xs) = hit i x + occurs i xs

-- the last of a and xs, and the first of xs and e
abbrev pub last_of : ℕ → List ℕ → ℕ
last_of a [] = a
last_of a (x ∷ xs) = last_of x xs

abbrev pub head_of : List ℕ → ℕ → ℕ
head_of [] e = e
head_of (x ∷ xs) e = x

-- ---- one ring

-- the nodes of xs follow a, in this order
abbrev pub Run : (ℕ → ℕ) → (ℕ → ℕ) → ℕ → List ℕ → Type 0
Run nx pv a [] = Unit
Run nx pv a (x ∷ xs) = (nx a ≡ x) × (pv x ≡ a) × Run nx pv x xs

-- the nodes of xs follow the sentinel s, in this order, and s follows the last of them; no node stands twice, and all are below n
pub record Ring (nx pv : ℕ → ℕ) (n s : ℕ) (xs : List ℕ) : Type 0 where
  pub run : Run nx pv s (xs ++ s ∷ [])
  pub once : (i : ℕ) → occurs i (s ∷ xs) ≤ 1
  pub within : (i : ℕ) → n ≤ i → occurs i (s ∷ xs) ≡ 0

-- the ring of s among the n nodes whose links start at byte o of t
abbrev pub RingIn : List ℕ → ℕ → ℕ → ℕ → List ℕ → Type 0
RingIn t o n s xs = Ring (next_of t o) (prev_of t o) n s xs

-- t has room for the links of n nodes from byte o on, and a link of 16 bits can name each
pub record Room (t : List ℕ) (o n : ℕ) : Type 0 where
  pub fits : o + 4 * n ≤ length t
  pub few : n ≤ 65536

-- ---- families

-- how often i stands in the rings of the sentinels 0 to m - 1, where R s is what stands in that of s
abbrev pub in_rings : ℕ → (ℕ → List ℕ) → ℕ → ℕ
in_rings m R i = sum_to m (λ s. occurs i (s ∷ R s))

-- the rings of the sentinels 0 to m - 1 in a table of n nodes: no node is in two
pub record Rings (t : List ℕ) (o n m : ℕ) (R : ℕ → List ℕ) : Type 0 where
  pub room : Room t o n
  pub ring : (s : ℕ) → s < m → RingIn t o n s (R s)
  pub apart : (i : ℕ) → in_rings m R i ≤ 1
