-- What holds of an arity of 2 ^ k, for k from 3 to 6.
use mathlib.Core.Path.{◌≡◌, refl, ap, sym}
use mathlib.Core.Logic.{inl, inr}
use Prim.Native.Nat.{ℕ, zero, suc, ◌+◌, ◌%◌, ◌^◌, ◌≤◌, ◌<◌}
use native.Mathlib.Nat.{le_trans, mul-le-mul_right}
use native.Mathlib.Omega.{arith}
use lib.Pow.{pow_mono}
use Rattle.calendar_bitmap.specs.Child.{Arity}
use Rattle.calendar_shapes.specs.declared.Shape.{Shape}
use Rattle.calendar_shapes.specs.Rule.{arity_in, Right, Sizes}

pub sizes : (k : ℕ) → 3 ≤ k → k ≤ 6 → Sizes (2 ^ k)
sizes k l h =
    let lo : 8 ≤ 2 ^ k = pow_mono l in
    let hi : 2 ^ k ≤ 64 = pow_mono h in
    record {
      low = lo;
      high = hi;
      square = mul-le-mul_right (2 ^ k) lo;
      most = le_trans (mul-le-mul_right (2 ^ k) hi) (omega arith);
    }

pub arity_of : (i : ℕ) → i < 4 → Arity (2 ^ (3 + i))
arity_of zero l = inl refl
arity_of (suc zero) l = inr (inl refl)
arity_of (suc (suc zero)) l = inr (inr (inl refl))
arity_of (suc (suc (suc zero))) l = inr (inr (inr refl))
arity_of (suc (suc (suc (suc i)))) l = absurd (omega arith)

-- ---- the arity in a row

pub row_sizes : (row : ℕ) → Sizes (arity_in row)
unfolding arity_in
row_sizes row = sizes (3 + row % 4) (omega arith) (omega arith)

pub row_arity : (row : ℕ) → Arity (arity_in row)
unfolding arity_in
row_arity row = arity_of (row % 4) (omega arith)

pub by_exponent : (k row : ℕ) → k ≡ 3 + row % 4 → 2 ^ k ≡ arity_in row
unfolding arity_in
by_exponent k row e = ap (λ (n : ℕ). 2 ^ n) e

-- the rule of the table, of a row's arity
pub right_arity : (row : ℕ) (q : Shape) → Right (row % 4) q → q.arity ≡ arity_in row
unfolding arity_in
right_arity row q Q = Q.arity_is

-- rows that are one modulo 4 have one arity
pub same_row : (i row : ℕ) → row % 4 ≡ i % 4 → arity_in i ≡ arity_in row
unfolding arity_in
same_row i row e = ap (λ (m : ℕ). 2 ^ (3 + m)) (sym e)
