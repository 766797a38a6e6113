-- The remainder by a power of two.
use mathlib.Core.Path.{◌≡◌, sym, ap, ◌∙◌}
use Prim.Native.Nat.{ℕ, ◌-◌, ◌*◌, ◌%◌, ◌^◌, ◌<◌}
use native.Mathlib.Nat.{one-mul, mod-one, mod-eq_of_lt, lt_of_lt_of_le}
use native.Mathlib.Omega.{arith}
use lib.Dec.{lit<}
use lib.Pow.{pow_pos, pow_mono, shl_exact}
use Rattle.calendar_bitmap.proofs.rest.Goals as goal

-- the number of words of so many bits
words : (n : ℕ) → n < 64 → 1 * 2 ^ n % 2 ^ 64 ≡ 2 ^ n
words n l = shl_exact 1 n 64 (lit< tt) (omega arith) ∙ one-mul (2 ^ n)

pub returns-then-arity-i : goal.returns-then-arity-i
returns-then-arity-i c =
    let args = c.args in
    let z : args.arity - args.i ≡ 0 = omega arith in
    sym (ap (λ (n : ℕ). args.x % 2 ^ n) z ∙ mod-one args.x)

pub returns-then-n-ge64 : goal.returns-then-n-ge64
returns-then-n-ge64 c =
    let args = c.args in
    let l : args.x < 2 ^ 64 = omega arith in
    sym (mod-eq_of_lt (lt_of_lt_of_le l (pow_mono {i = 64} (omega arith))))

pub nonzero_rem-result : goal.nonzero_rem-result
nonzero_rem-result c = let args = c.args in rw (words (args.arity - args.i) (omega arith)) (pow_pos (args.arity - args.i))

pub returns : goal.returns
returns c = let args = c.args in ap (λ (m : ℕ). args.x % m) (words (args.arity - args.i) (omega arith))
