-- Number 26 lets the powers of 2 from 2 ^ 3 to 2 ^ 6 pass, and nothing else.
use mathlib.Core.Path.{◌≡◌, refl, sym, subst}
use mathlib.Core.Bool.{true, false}
use Prim.Native.Nat.{ℕ, zero, suc, ◌+◌, ◌^◌, ◌<◌}
use native.Mathlib.Omega.{arith}
use borrow.Author.Tests.{ne_eqb}
use Rattle.refusal.specs.Tests.{arity_out}

power_in : (i : ℕ) → i < 4 → arity_out (2 ^ (3 + i)) ≡ false
power_in zero h = refl
power_in (suc zero) h = refl
power_in (suc (suc zero)) h = refl
power_in (suc (suc (suc zero))) h = refl
power_in (suc (suc (suc (suc i)))) h = absurd (omega arith)

pub arity_in_lem : {a : ℕ} (i : ℕ) → i < 4 → a ≡ 2 ^ (3 + i) → arity_out a ≡ false
arity_in_lem i h e = subst (λ (x : ℕ). arity_out x ≡ false) (sym e) (power_in i h)

pub arity_none : (a : ℕ) → ((i : ℕ) → i < 4 → a ≡ 2 ^ (3 + i) → ⊥) → arity_out a ≡ true
arity_none a f = rw (ne_eqb a 8 (f 0 (omega arith)), ne_eqb a 16 (f 1 (omega arith)), ne_eqb a 32 (f 2 (omega arith)), ne_eqb a 64 (f 3 (omega arith)))
