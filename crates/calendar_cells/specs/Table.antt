-- What the table's bytes stand for, over the arity a: each station's due number and bucket.
use Rattle.std.specs.Prelude.{◌≡◌, List, ℕ, suc, ◌+◌, ◌*◌, ◌/◌, ◌%◌, ◌≤◌, ◌<◌, length}
use Rattle.refusal.specs.Tests.{horizon}
use Rattle.calendar_shapes.specs.Rule.{arity_in}
use Rattle.calendar_cells.specs.Cells.{word_at, back_at, link_at}
use Rattle.calendar_cells.specs.Lists.{Lists}
use Rattle.calendar_cells.specs.Tree.{Tree}

-- the due number of station s: 0 where it is absent
unfoldable pub due_of : List ℕ → ℕ → ℕ
due_of xs s = word_at (8 + s) xs % 2199023255552

-- the bucket in which the station s stands
unfoldable pub bucket_of : List ℕ → ℕ → ℕ
bucket_of xs s = word_at (8 + s) xs / 2199023255552

-- the station is not absent
abbrev pub Due : List ℕ → ℕ → Type 0
Due xs s = due_of xs s ≡ 0 → ⊥

-- the arity for which the bytes are made
unfoldable pub arity_of : List ℕ → ℕ
arity_of xs = arity_in (word_at 7 xs)

-- the bytes of a table
abbrev pub bytes_for : ℕ → ℕ
bytes_for a = 4584 + 128 * a + 32 * (a * a)

-- ---- links and bits

abbrev pub next_place : List ℕ → ℕ → ℕ
next_place xs p = link_at p xs

abbrev pub prev_place : List ℕ → ℕ → ℕ
prev_place xs s = back_at (suc s) xs

abbrev pub node_word : ℕ → List ℕ → ℕ → ℕ
node_word a xs j = word_at (541 + 4 * (a * a) + j) xs

abbrev pub root_of : List ℕ → ℕ → ℕ
root_of xs r = word_at (264 + r) xs

-- the head of a bucket: its first station + 1, or 0
abbrev pub bucket_head : List ℕ → ℕ → ℕ
bucket_head xs l = next_place xs (256 + l)

-- the bytes are a table
pub record Table (a : ℕ) (xs : List ℕ) : Type 0 where
  pub arity_is : a ≡ arity_of xs
  pub long : bytes_for a ≤ length xs
  pub until : (x : ℕ) → x < 256 → due_of xs x ≤ suc horizon
  pub within : (x : ℕ) → x < 256 → Due xs x → bucket_of xs x < 16 * (a * a) + 256
  -- a bucket of the overflow table is its station's own
  pub own : (x : ℕ) → x < 256 → Due xs x → 16 * (a * a) ≤ bucket_of xs x → bucket_of xs x ≡ 16 * (a * a) + x
  pub lists : Lists (512 + 16 * (a * a)) (bucket_of xs) (due_of xs) (next_place xs) (prev_place xs)
  pub tree : Tree a (bucket_head xs) (node_word a xs) (root_of xs)

-- station x stands in the overflow table
abbrev pub Waits : ℕ → List ℕ → ℕ → Type 0
Waits a xs x = Due xs x × (bucket_of xs x ≡ 16 * (a * a) + x)
