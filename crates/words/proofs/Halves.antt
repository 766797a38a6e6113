-- A number of m + n bytes is one of m bytes and one of n bytes beside it: code that loads or stores in two halves is right.
use mathlib.Core.Path.{◌≡◌, refl}
use mathlib.Core.List.{List}
use Prim.Native.Nat.{ℕ, zero, suc, ◌+◌, ◌*◌, ◌/◌, ◌%◌, ◌^◌, ◌<◌}
use native.Mathlib.Nat.{add_comm, zero-add, add-zero, suc-add, add-suc, zero-mul, mul-one, mul_assoc, add-mul, add_assoc, pow-suc, pow-zero, pow-succ', div-one, div-div-eq-div-mul, mod-lt, mod-eq_of_lt, one-le-pow, zero-lt-suc}
use lib.ListN.{get_or, set}
use lib.Arith.{mod-mul, digits_div, digits_mod}
use Rattle.words.specs.Le.{le_at, put_le}

pub le_split : (m n i : ℕ) (xs : List ℕ) → le_at (m + n) i xs ≡ le_at n (i + m) xs * 256 ^ m + le_at m i xs
unfolding le_at
le_split zero n i xs = rw (zero-add, add-zero, pow-zero, mul-one, add-zero)
le_split (suc m) n i xs =
    let e : le_at (m + n) (suc i) xs ≡ le_at n (suc i + m) xs * 256 ^ m + le_at m (suc i) xs = le_split m n (suc i) xs in
    rw (suc-add, e, suc-add, add-suc, add-mul, mul_assoc, pow-suc, add_assoc)

pub put_split : (m n i v : ℕ) (xs : List ℕ) → put_le (m + n) i v xs ≡ put_le n (i + m) (v / 256 ^ m) (put_le m i v xs)
unfolding put_le
put_split zero n i v xs = rw (zero-add, add-zero, pow-zero, div-one)
put_split (suc m) n i v xs =
    rw (suc-add, put_split m n (suc i) (v / 256) (set xs i (v % 256)), suc-add, add-suc, div-div-eq-div-mul, pow-succ')

pub pow_pos : (n : ℕ) → zero < 256 ^ n
pow_pos n = one-le-pow n 256 (zero-lt-suc 255)

-- the lowest byte of the n + 1 lowest, and the others
pub low_suc : (n v : ℕ) → v % 256 ^ suc n ≡ v / 256 % 256 ^ n * 256 + v % 256
low_suc n v = rw pow-suc (mod-mul v (pow_pos n) (zero-lt-suc 255))

-- a store takes the lowest bytes of its number
pub put_low : (n i v : ℕ) (xs : List ℕ) → put_le n i (v % 256 ^ n) xs ≡ put_le n i v xs
unfolding put_le
put_low zero i v xs = refl
put_low (suc n) i v xs =
    let r : v % 256 < 256 = mod-lt v (zero-lt-suc 255) in
    rw (low_suc, digits_div (v / 256 % 256 ^ n) r, digits_mod (v / 256 % 256 ^ n) r)
    (put_low n (suc i) (v / 256) (set xs i (v % 256)))

-- the low half a and the high half b were loaded
pub load_joined : (m n i : ℕ) (xs : List ℕ) {a b : ℕ} → a ≡ le_at m i xs → b ≡ le_at n (i + m) xs → a + b * 256 ^ m ≡ le_at (m + n) i xs
load_joined m n i xs p q = rw (p, q, le_split, add_comm)

-- the low half was stored, then the high half
pub put_joined : (m n i v : ℕ) (xs : List ℕ) {ys zs : List ℕ} → ys ≡ put_le m i (v % 256 ^ m) xs → zs ≡ put_le n (i + m) (v / 256 ^ m) ys
    → zs ≡ put_le (m + n) i v xs
put_joined m n i v xs p q = rw (q, p, put_low, put_split)

-- ---- a half may be one byte

pub le_byte : (i : ℕ) (xs : List ℕ) → get_or xs i 0 ≡ le_at 1 i xs
unfolding le_at
le_byte i xs = rw (zero-mul, zero-add)

pub put_byte : (i v : ℕ) (xs : List ℕ) → v < 256 → set xs i v ≡ put_le 1 i v xs
unfolding put_le
put_byte i v xs h = rw (mod-eq_of_lt h)
