-- The bits of a number: those of a power of two, of an or, of an exclusive or, and of a remainder by a power of two.
use mathlib.Core.Path.{◌≡◌, ap, ◌∙◌}
use mathlib.Core.Logic.{◌⊎◌, inl, inr}
use Prim.Native.Nat.{ℕ, zero, suc, ◌+◌, ◌-◌, ◌/◌, ◌%◌, ◌^◌, ◌≤◌, ◌<◌, suc-le-suc, max}
use native.Mathlib.Nat.{zero-div, mod-lt, div-eq_of_lt, div-eq_of_lt-le, lt_of_lt_of_le, le_refl, zero-lt-suc, one-mul, pow-suc, mul_comm, le_of_eq, mul-mod_left}
use native.Mathlib.Nat.{max-le, le_of_suc-le-suc}
use native.Mathlib.Omega.{arith}
use lib.Pow.{pow_pos, pow-add, pow-lt, shl-shr}
use lib.Bits.{bit_or, or_shr, or_step, bit_xor, xor_shr, xor_step, differ}
use lib.Arith.{mod-mul, digits_div, digits_mod}
use Rattle.words.proofs.Cases.{lt_or}

-- bit n of x, 0 or 1
abbrev pub bit : ℕ → ℕ → ℕ
bit x n = x / 2 ^ n % 2

pub bit_lt : (x n : ℕ) → bit x n < 2
bit_lt x n = mod-lt (x / 2 ^ n) (zero-lt-suc 1)

pub bit_zero : (n : ℕ) → bit 0 n ≡ 0
bit_zero n = rw zero-div

-- a number below 2 ^ n has no bit n
pub bit_high : (x n : ℕ) → x < 2 ^ n → bit x n ≡ 0
bit_high x n h = rw (div-eq_of_lt h)

-- the highest bit
pub bit_top : (x n : ℕ) → 2 ^ n ≤ x → x < 2 ^ suc n → bit x n ≡ 1
bit_top x n l h =
    let q : x / 2 ^ n ≡ 1 = div-eq_of_lt-le (2 ^ n) (rw one-mul l) (lt_of_lt_of_le h (le_of_eq (pow-suc 2 n ∙ mul_comm (2 ^ n) 2))) in
    rw q

-- ---- or

max_lt : (a b : ℕ) → a < 2 → b < 2 → max a b < 2
max_lt a b p q = suc-le-suc (max-le (le_of_suc-le-suc p) (le_of_suc-le-suc q))

or_odd : (a b : ℕ) → bit_or a b % 2 ≡ max (a % 2) (b % 2)
or_odd a b =
    ap (λ (x : ℕ). x % 2) (or_step a b)
    ∙ digits_mod (bit_or (a / 2) (b / 2)) (max_lt (a % 2) (b % 2) (mod-lt a (zero-lt-suc 1)) (mod-lt b (zero-lt-suc 1)))

pub bit_or_lem : (a b n : ℕ) → bit (bit_or a b) n ≡ max (bit a n) (bit b n)
bit_or_lem a b n = ap (λ (x : ℕ). x % 2) (or_shr a b n) ∙ or_odd (a / 2 ^ n) (b / 2 ^ n)

-- ---- exclusive or

differ_lt : (a b : ℕ) → a < 2 → b < 2 → differ a b < 2
differ_lt zero b p q = q
differ_lt (suc zero) zero p q = p
differ_lt (suc zero) (suc zero) p q = zero-lt-suc 1
differ_lt (suc zero) (suc (suc b)) p q = absurd (omega arith)
differ_lt (suc (suc a)) b p q = absurd (omega arith)

xor_odd : (a b : ℕ) → bit_xor a b % 2 ≡ differ (a % 2) (b % 2)
xor_odd a b =
    ap (λ (x : ℕ). x % 2) (xor_step a b)
    ∙ digits_mod (bit_xor (a / 2) (b / 2)) (differ_lt (a % 2) (b % 2) (mod-lt a (zero-lt-suc 1)) (mod-lt b (zero-lt-suc 1)))

pub bit_xor_lem : (a b n : ℕ) → bit (bit_xor a b) n ≡ differ (bit a n) (bit b n)
bit_xor_lem a b n = ap (λ (x : ℕ). x % 2) (xor_shr a b n) ∙ xor_odd (a / 2 ^ n) (b / 2 ^ n)

-- ---- a power of two

pub bit_pow_same : (n : ℕ) → bit (2 ^ n) n ≡ 1
bit_pow_same n = bit_top (2 ^ n) n (le_refl (2 ^ n)) (pow-lt (le_refl (suc n)))

bit_pow_low : (d m : ℕ) → bit (2 ^ (suc d + m)) m ≡ 0
bit_pow_low d m = rw (pow-add, shl-shr, pow-suc, mul-mod_left)

pub bit_pow_other : (n m : ℕ) → (m ≡ n → ⊥) → bit (2 ^ n) m ≡ 0
bit_pow_other n m h = go (lt_or m n)
  where
    go : (m < n) ⊎ (n ≤ m) → bit (2 ^ n) m ≡ 0
    go (inl l) =
        let e : n ≡ suc (n - suc m) + m = omega arith in
        ap (λ (k : ℕ). bit (2 ^ k) m) e ∙ bit_pow_low (n - suc m) m
    go (inr l) = bit_high (2 ^ n) m (pow-lt (omega arith))

-- ---- a remainder keeps the low bits

odd_mod : (y d : ℕ) → y % 2 ^ suc d % 2 ≡ y % 2
odd_mod y d = rw pow-suc (ap (λ (x : ℕ). x % 2) (mod-mul y (pow_pos d) (zero-lt-suc 1)) ∙ digits_mod (y / 2 % 2 ^ d) (mod-lt y (zero-lt-suc 1)))

pub bit_mod : (x d n : ℕ) → bit (x % 2 ^ (suc d + n)) n ≡ bit x n
bit_mod x d n =
    rw pow-add
    (ap (λ (y : ℕ). y / 2 ^ n % 2) (mod-mul x (pow_pos (suc d)) (pow_pos n))
    ∙ ap (λ (y : ℕ). y % 2) (digits_div (x / 2 ^ n % 2 ^ suc d) (mod-lt x (pow_pos n)))
    ∙ odd_mod (x / 2 ^ n) d)
