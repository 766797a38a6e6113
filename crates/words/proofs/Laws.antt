-- What a load reads after a store, and what a store leaves: each law once, for every width.
use mathlib.Core.Path.{◌≡◌, refl, sym, ap, ap₂, ◌∙◌}
use mathlib.Core.Bool.{Bool, true, false, cond}
use mathlib.Core.Logic.{◌⊎◌, inl, inr}
use mathlib.Core.List.{List, ◌++◌, append_assoc}
use Prim.Native.Nat.{ℕ, zero, suc, ◌+◌, ◌*◌, ◌/◌, ◌%◌, ◌^◌, ◌≤◌, ◌<◌}
use native.Mathlib.Nat.{pow-suc, mod-one, mod-eq_of_lt, zero-lt-suc}
use native.Mathlib.Omega.{arith}
use lib.Arith.{digits_lt}
use lib.Dec.{leb}
use lib.ListN.{length, take, drop, get_or, set, length-set}
use lib.Seq.{sets, sets-eq, get_or-set_same, get_or-set_other}
use Rattle.words.specs.Le.{le_at, put_le, bytes_of, load_at, store_at}
use Rattle.words.proofs.Halves.{low_suc, pow_pos}
use Rattle.words.proofs.Total.{load_in, store_in}

-- ---- what a store leaves

length_put : (n i v : ℕ) (xs : List ℕ) → length (put_le n i v xs) ≡ length xs
unfolding put_le
length_put zero i v xs = refl
length_put (suc n) i v xs = length_put n (suc i) (v / 256) (set xs i (v % 256)) ∙ length-set xs i (v % 256)

pub length_store : (n i v : ℕ) (xs : List ℕ) → length (store_at n i v xs) ≡ length xs
unfolding store_at
length_store n i v xs = go (leb (i + n) (length xs))
  where
    go : (b : Bool) → length (cond b (put_le n i v xs) xs) ≡ length xs
    go true = length_put n i v xs
    go false = refl

-- the n bytes from i and the m bytes from j do not meet
abbrev pub Apart : ℕ → ℕ → ℕ → ℕ → Type 0
Apart i n j m = (i + n ≤ j) ⊎ (j + m ≤ i)

byte_other : (n i v : ℕ) (xs : List ℕ) (j : ℕ) → Apart i n j 1 → get_or (put_le n i v xs) j 0 ≡ get_or xs j 0
unfolding put_le
byte_other zero i v xs j h = refl
byte_other (suc n) i v xs j (inl h) =
    byte_other n (suc i) (v / 256) (set xs i (v % 256)) j (inl (omega arith)) ∙ get_or-set_other xs i j (v % 256) 0 (omega arith)
byte_other (suc n) i v xs j (inr h) =
    byte_other n (suc i) (v / 256) (set xs i (v % 256)) j (inr (omega arith)) ∙ get_or-set_other xs i j (v % 256) 0 (omega arith)

le_other : (m n i v : ℕ) (xs : List ℕ) (j : ℕ) → Apart i n j m → le_at m j (put_le n i v xs) ≡ le_at m j xs
unfolding le_at
le_other zero n i v xs j h = refl
le_other (suc m) n i v xs j (inl h) =
    ap₂ (λ (a b : ℕ). a * 256 + b) (le_other m n i v xs (suc j) (inl (omega arith))) (byte_other n i v xs j (inl (omega arith)))
le_other (suc m) n i v xs j (inr h) =
    ap₂ (λ (a b : ℕ). a * 256 + b) (le_other m n i v xs (suc j) (inr (omega arith))) (byte_other n i v xs j (inr (omega arith)))

-- a number elsewhere stays
pub load_other : (m n i v : ℕ) (xs : List ℕ) (j : ℕ) → Apart i n j m → load_at m j (store_at n i v xs) ≡ load_at m j xs
unfolding store_at load_at
load_other m n i v xs j h = go (leb (i + n) (length xs))
  where
    go : (b : Bool) → load_at m j (cond b (put_le n i v xs) xs) ≡ load_at m j xs
    go true = rw (length_put, le_other m n i v xs j h)
    go false = refl

-- ---- what was stored is read back

-- cut to the width
le_same : (n i v : ℕ) (xs : List ℕ) → i + n ≤ length xs → le_at n i (put_le n i v xs) ≡ v % 256 ^ n
unfolding le_at put_le
le_same zero i v xs h = sym (mod-one v)
le_same (suc n) i v xs h =
    ap₂ (λ (a b : ℕ). a * 256 + b)
    (le_same n (suc i) (v / 256) (set xs i (v % 256)) (simp length-set (omega arith)))
    (byte_other n (suc i) (v / 256) (set xs i (v % 256)) i (inr (omega arith)) ∙ get_or-set_same xs i (v % 256) 0 (omega arith))
    ∙ sym (low_suc n v)

pub load_stored : (n i v : ℕ) (xs : List ℕ) → i + n ≤ length xs → v < 256 ^ n → load_at n i (store_at n i v xs) ≡ v
load_stored n i v xs h l =
    rw (store_in n i v xs h) (load_in n i (put_le n i v xs) (rw length_put h) ∙ le_same n i v xs h ∙ mod-eq_of_lt l)

-- ---- the size of a load

le_lt : (n i : ℕ) (xs : List ℕ) → ((j : ℕ) → get_or xs j 0 < 256) → le_at n i xs < 256 ^ n
unfolding le_at
le_lt zero i xs h = zero-lt-suc 0
le_lt (suc n) i xs h = rw pow-suc (digits_lt (le_lt n (suc i) xs h) (h i))

pub load_lt : (n i : ℕ) (xs : List ℕ) → ((j : ℕ) → get_or xs j 0 < 256) → load_at n i xs < 256 ^ n
unfolding load_at
load_lt n i xs h = go (leb (i + n) (length xs))
  where
    go : (b : Bool) → cond b (le_at n i xs) 0 < 256 ^ n
    go true = le_lt n i xs h
    go false = pow_pos n

-- ---- a store as a list

pub length_bytes : (n v : ℕ) → length (bytes_of n v) ≡ n
unfolding bytes_of
length_bytes zero v = refl
length_bytes (suc n) v = ap suc (length_bytes n (v / 256))

put_sets : (n i v : ℕ) (xs : List ℕ) → put_le n i v xs ≡ sets xs i (bytes_of n v)
unfolding put_le bytes_of
put_sets zero i v xs = refl
put_sets (suc n) i v xs = put_sets n (suc i) (v / 256) (set xs i (v % 256))

pub put_parts : (n i v : ℕ) (xs : List ℕ) → i + n ≤ length xs → put_le n i v xs ≡ take i xs ++ (bytes_of n v ++ drop (i + n) xs)
put_parts n i v xs h =
    let e : length (bytes_of n v) ≡ n = length_bytes n v in
    put_sets n i v xs
    ∙ (rw e at (sets-eq (bytes_of n v) xs i (rw e h)))
    ∙ append_assoc (take i xs) (bytes_of n v) (drop (i + n) xs)
