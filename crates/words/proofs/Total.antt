-- A load or a store whose bytes lie whole in the list is the plain one, and any other reads 0 or changes nothing.
use mathlib.Core.Path.{◌≡◌, sym, ◌∙◌}
use mathlib.Core.Bool.{Bool, true, false}
use mathlib.Core.List.{List}
use Prim.Native.Nat.{ℕ, ◌+◌, ◌≤◌, ◌<◌}
use borrow.Author.Tests.{leb-true, leb-false, le-leb, lt-leb}
use lib.Dec.{leb}
use lib.ListN.{length}
use Rattle.words.specs.Le.{le_at, put_le, load_at, store_at}

pub load_in : (n i : ℕ) (xs : List ℕ) → i + n ≤ length xs → load_at n i xs ≡ le_at n i xs
unfolding load_at
load_in n i xs h = rw (le-leb (i + n) (length xs) h)

pub load_out : (n i : ℕ) (xs : List ℕ) → length xs < i + n → load_at n i xs ≡ 0
unfolding load_at
load_out n i xs h = rw (lt-leb (i + n) (length xs) h)

pub store_in : (n i v : ℕ) (xs : List ℕ) → i + n ≤ length xs → store_at n i v xs ≡ put_le n i v xs
unfolding store_at
store_in n i v xs h = rw (le-leb (i + n) (length xs) h)

pub store_out : (n i v : ℕ) (xs : List ℕ) → length xs < i + n → store_at n i v xs ≡ xs
unfolding store_at
store_out n i v xs h = rw (lt-leb (i + n) (length xs) h)

-- ---- the test of the code

pub test_in : (n i k : ℕ) {b : Bool} → b ≡ leb (i + n) k → b ≡ true → i + n ≤ k
test_in n i k p q = leb-true (i + n) k (sym p ∙ q)

pub test_out : (n i k : ℕ) {b : Bool} → b ≡ leb (i + n) k → b ≡ false → k < i + n
test_out n i k p q = leb-false (i + n) k (sym p ∙ q)
