-- A table of 16-bit links in a list of bytes: from byte o on, node i's next is at o + 4 i and its previous at o + 4 i + 2.
use Rattle.std.specs.Prelude.{◌≡◌, cond, ◌⊎◌, List, ℕ, ◌+◌, ◌*◌, ◌≤◌, ltb, length}
use Rattle.words.specs.Le.{load_at, store_at}

abbrev pub next_of : List ℕ → ℕ → ℕ → ℕ
next_of t o i = load_at 2 (o + 4 * i) t

abbrev pub prev_of : List ℕ → ℕ → ℕ → ℕ
prev_of t o i = load_at 2 (o + 4 * i + 2) t

-- ---- stores

-- a store to a link of node i, for i below n; else the bytes as they were
unfoldable pub with_next : List ℕ → ℕ → ℕ → ℕ → ℕ → List ℕ
with_next t o n i v = cond (ltb i n) (store_at 2 (o + 4 * i) v t) t

unfoldable pub with_prev : List ℕ → ℕ → ℕ → ℕ → ℕ → List ℕ
with_prev t o n i v = cond (ltb i n) (store_at 2 (o + 4 * i + 2) v t) t

-- node s alone in a ring
unfoldable pub empty_at : List ℕ → ℕ → ℕ → ℕ → List ℕ
empty_at t o n s = with_prev (with_next t o n s s) o n s s

-- node x put after node a
unfoldable pub link_after : List ℕ → ℕ → ℕ → ℕ → ℕ → List ℕ
link_after t o n a x = with_prev (with_next (with_prev (with_next t o n x (next_of t o a)) o n x a) o n a x) o n (next_of t o a) x

-- node x taken out of its ring
unfoldable pub unlinked : List ℕ → ℕ → ℕ → ℕ → List ℕ
unlinked t o n x = with_prev (with_next t o n (prev_of t o x) (next_of t o x)) o n (next_of t o x) (prev_of t o x)

-- ---- frames

-- the m bytes from j lie outside the k bytes from i
abbrev pub Outside : ℕ → ℕ → ℕ → ℕ → Type 0
Outside i k j m = (i + k ≤ j) ⊎ (j + m ≤ i)

-- from t to t' at most the k bytes from i changed: the length and each number outside them are as they were
pub record Frame (i k : ℕ) (t t' : List ℕ) : Type 0 where
  pub size : length t' ≡ length t
  pub loads : (m j : ℕ) → Outside i k j m → load_at m j t' ≡ load_at m j t
