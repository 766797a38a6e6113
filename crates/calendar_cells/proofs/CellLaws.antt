-- A store to a cell is read back there and nowhere else: the only file that looks at where a cell's bytes stand.
use mathlib.Core.Path.{◌≡◌, sym, ◌∙◌}
use mathlib.Core.Logic.{◌⊎◌, inl, inr}
use mathlib.Core.List.{List}
use Prim.Native.Nat.{ℕ, ◌+◌, ◌*◌, ◌^◌, ◌≤◌, ◌<◌}
use native.Mathlib.Omega.{arith}
use lib.ListN.{length, get_or, get_or-eq_default}
use Rattle.words.specs.Le.{store_at}
use Rattle.words.proofs.Halves.{le_byte}
use Rattle.words.proofs.Total.{load_in}
use Rattle.words.proofs.Laws.{Apart, load_other, load_stored, length_store}
use Rattle.calendar_cells.specs.Cells.{word_at, put_word, back_at, put_back, link_at, put_link}
use Rattle.words.proofs.Cases.{lt_or}

apart : (i n j m : ℕ) → (i < j → i + n ≤ j) → (j ≤ i → j + m ≤ i) → Apart i n j m
apart i n j m f g = go (lt_or i j)
  where
    go : (i < j) ⊎ (j ≤ i) → Apart i n j m
    go (inl l) = inl (f l)
    go (inr l) = inr (g l)

pub length_word : (i v : ℕ) (xs : List ℕ) → length (put_word i v xs) ≡ length xs
unfolding put_word
length_word i v xs = length_store 8 (8 * i) v xs

pub length_back : (k v : ℕ) (xs : List ℕ) → length (put_back k v xs) ≡ length xs
unfolding put_back
length_back k v xs = length_store 4 (2272 + 4 * k) v xs

pub length_link : (p v : ℕ) (xs : List ℕ) → length (put_link p v xs) ≡ length xs
unfolding put_link
length_link p v xs = length_store 2 (3304 + 2 * p) v xs

-- a byte that is not of the word
pub byte_word : (i v : ℕ) (xs : List ℕ) (k : ℕ) → (k < 8 * i) ⊎ (8 * i + 8 ≤ k) → get_or (put_word i v xs) k 0 ≡ get_or xs k 0
unfolding put_word
byte_word i v xs k h = go (lt_or k (length xs)) h
  where
    go : (k < length xs) ⊎ (length xs ≤ k) → (k < 8 * i) ⊎ (8 * i + 8 ≤ k) → get_or (store_at 8 (8 * i) v xs) k 0 ≡ get_or xs k 0
    go (inl l) c =
        le_byte k (store_at 8 (8 * i) v xs) ∙ sym (load_in 1 k (store_at 8 (8 * i) v xs) (omega (arith, length_store 8 (8 * i) v xs)))
        ∙ load_other 1 8 (8 * i) v xs k (side c) ∙ load_in 1 k xs (omega arith) ∙ sym (le_byte k xs)
      where
        side : (k < 8 * i) ⊎ (8 * i + 8 ≤ k) → Apart (8 * i) 8 k 1
        side (inl m) = inr (omega arith)
        side (inr m) = inl (omega arith)
    go (inr l) c = get_or-eq_default (store_at 8 (8 * i) v xs) 0 (omega (arith, length_store 8 (8 * i) v xs)) ∙ sym (get_or-eq_default xs 0 l)

-- ---- words

pub word_same : (i v : ℕ) (xs : List ℕ) → 8 * i + 8 ≤ length xs → v < 2 ^ 64 → word_at i (put_word i v xs) ≡ v
unfolding word_at put_word
word_same i v xs l f = load_stored 8 (8 * i) v xs l f

pub word_other : (i v : ℕ) (xs : List ℕ) (j : ℕ) → (j ≡ i → ⊥) → word_at j (put_word i v xs) ≡ word_at j xs
unfolding word_at put_word
word_other i v xs j ne = load_other 8 8 (8 * i) v xs (8 * j) (apart (8 * i) 8 (8 * j) 8 (λ l. omega arith) (λ l. omega arith))

pub back_word : (i v : ℕ) (xs : List ℕ) (k : ℕ) → (i < 284) ⊎ (413 ≤ i) → k < 257 → back_at k (put_word i v xs) ≡ back_at k xs
unfolding back_at put_word
back_word i v xs k (inl h) l = load_other 4 8 (8 * i) v xs (2272 + 4 * k) (inl (omega arith))
back_word i v xs k (inr h) l = load_other 4 8 (8 * i) v xs (2272 + 4 * k) (inr (omega arith))

-- a word before the links, or after the first 512 + 16 q
pub link_word : (i v : ℕ) (xs : List ℕ) (q p : ℕ) → (i < 413) ⊎ (541 + 4 * q ≤ i) → p < 512 + 16 * q → link_at p (put_word i v xs) ≡ link_at p xs
unfolding link_at put_word
link_word i v xs q p (inl h) l = load_other 2 8 (8 * i) v xs (3304 + 2 * p) (inl (omega arith))
link_word i v xs q p (inr h) l = load_other 2 8 (8 * i) v xs (3304 + 2 * p) (inr (omega arith))

-- ---- numbers of 32 bits

pub back_same : (k v : ℕ) (xs : List ℕ) → k < 257 → 3300 ≤ length xs → v < 2 ^ 32 → back_at k (put_back k v xs) ≡ v
unfolding back_at put_back
back_same k v xs h l f = load_stored 4 (2272 + 4 * k) v xs (omega arith) f

pub back_other : (k v : ℕ) (xs : List ℕ) (j : ℕ) → (j ≡ k → ⊥) → back_at j (put_back k v xs) ≡ back_at j xs
unfolding back_at put_back
back_other k v xs j ne =
    load_other 4 4 (2272 + 4 * k) v xs (2272 + 4 * j) (apart (2272 + 4 * k) 4 (2272 + 4 * j) 4 (λ l. omega arith) (λ l. omega arith))

pub word_back : (k v : ℕ) (xs : List ℕ) (i : ℕ) → k < 257 → (i < 284) ⊎ (413 ≤ i) → word_at i (put_back k v xs) ≡ word_at i xs
unfolding word_at put_back
word_back k v xs i h (inl l) = load_other 8 4 (2272 + 4 * k) v xs (8 * i) (inr (omega arith))
word_back k v xs i h (inr l) = load_other 8 4 (2272 + 4 * k) v xs (8 * i) (inl (omega arith))

pub link_back : (k v : ℕ) (xs : List ℕ) (p : ℕ) → k < 257 → link_at p (put_back k v xs) ≡ link_at p xs
unfolding link_at put_back
link_back k v xs p h = load_other 2 4 (2272 + 4 * k) v xs (3304 + 2 * p) (inl (omega arith))

-- ---- numbers of 16 bits

pub link_same : (p v : ℕ) (xs : List ℕ) → 3306 + 2 * p ≤ length xs → v < 2 ^ 16 → link_at p (put_link p v xs) ≡ v
unfolding link_at put_link
link_same p v xs l f = load_stored 2 (3304 + 2 * p) v xs (omega arith) f

pub link_other : (p v : ℕ) (xs : List ℕ) (j : ℕ) → (j ≡ p → ⊥) → link_at j (put_link p v xs) ≡ link_at j xs
unfolding link_at put_link
link_other p v xs j ne =
    load_other 2 2 (3304 + 2 * p) v xs (3304 + 2 * j) (apart (3304 + 2 * p) 2 (3304 + 2 * j) 2 (λ l. omega arith) (λ l. omega arith))

pub word_link : (p v : ℕ) (xs : List ℕ) (q i : ℕ) → (i < 413) ⊎ ((541 + 4 * q ≤ i) × (p < 512 + 16 * q)) → word_at i (put_link p v xs) ≡ word_at i xs
unfolding word_at put_link
word_link p v xs q i (inl l) = load_other 8 2 (3304 + 2 * p) v xs (8 * i) (inr (omega arith))
word_link p v xs q i (inr l) = load_other 8 2 (3304 + 2 * p) v xs (8 * i) (inl (omega arith))

pub back_link : (p v : ℕ) (xs : List ℕ) (k : ℕ) → k < 257 → back_at k (put_link p v xs) ≡ back_at k xs
unfolding back_at put_link
back_link p v xs k h = load_other 4 2 (3304 + 2 * p) v xs (2272 + 4 * k) (inr (omega arith))
