-- What each call on a bucket's list promises.
use Rattle.std.specs.Prelude.{◌≡◌, Option, Some, None, List, ℕ, suc, ◌+◌, ◌*◌, ◌≤◌, ◌<◌, length}
use Rattle.calendar_cells.specs.Cells.{word_at, back_at, link_at}
use Rattle.calendar_cells.specs.Lists.{Live, Lists, list_of, rank_of}
use Rattle.calendar_cells.specs.Table.{due_of, bucket_of, next_place, prev_place, bucket_head, Due}

-- the lists are linked, whatever the bits say
abbrev pub Chained : ℕ → List ℕ → Type 0
Chained a xs = Lists (512 + 16 * (a * a)) (bucket_of xs) (due_of xs) (next_place xs) (prev_place xs)

-- a station of rank k belongs in the list right after p
pub record Place (a : ℕ) (xs : List ℕ) (list k p : ℕ) : Type 0 where
  pub within : p < 512 + 16 * (a * a)
  pub live : Live (due_of xs) p
  pub list_is : list_of (bucket_of xs) p ≡ list
  pub below : rank_of (due_of xs) p < k
  pub beyond : (m : ℕ) → next_place xs p ≡ suc m → k ≤ rank_of (due_of xs) m

-- p leads to n, a station + 1 or 0, and that back to p: where n is 0 in a cell that no station has. Nothing else is changed
pub record Joined (p n : ℕ) (xs ys : List ℕ) : Type 0 where
  pub size : length ys ≡ length xs
  pub words : (i : ℕ) → i < 284 → word_at i ys ≡ word_at i xs
  pub high : (q : ℕ) → p < 512 + 16 * q → (j : ℕ) → word_at (541 + 4 * q + j) ys ≡ word_at (541 + 4 * q + j) xs
  pub next : 3306 + 2 * p ≤ length xs → p < 66048 → n ≤ 256 → link_at p ys ≡ n
  pub prev : 3300 ≤ length xs → p < 66048 → n ≤ 256 → back_at n ys ≡ p
  pub links : (k : ℕ) → (k ≡ p → ⊥) → link_at k ys ≡ link_at k xs
  pub backs : (k : ℕ) → k < 257 → (k ≡ n → ⊥) → back_at k ys ≡ back_at k xs

-- h is the first station of a bucket
pub record Heads (xs : List ℕ) (list h : ℕ) : Type 0 where
  pub is : bucket_head xs list ≡ suc h
  pub station : (h < 256) × (Due xs h) × (bucket_of xs h ≡ list)
  pub least : (x : ℕ) → x < 256 → Due xs x → bucket_of xs x ≡ list → rank_of (due_of xs) h ≤ rank_of (due_of xs) x

-- that station, or none
abbrev pub HeadOf : List ℕ → ℕ → Option ℕ → Type 0
HeadOf xs list None = bucket_head xs list ≡ 0
HeadOf xs list (Some h) = Heads xs list h
