-- Division rounded up: nothing of nothing, and one more for each period that is begun.
use mathlib.Core.Path.{◌≡◌, ap, ◌∙◌}
use Prim.Native.Nat.{ℕ, ◌+◌, ◌-◌, ◌/◌, ◌≤◌}
use native.Mathlib.Nat.{div-eq_of_lt, add-div_right}
use native.Mathlib.Omega.{arith}
use Rattle.rules.proofs.Calls.Commit.{Early, early, late, is_early}
use Rattle.tariff.specs.Tariff.{rounded_up}

pub rounded_zero : (b : ℕ) → 1 ≤ b → rounded_up 0 b ≡ 0
unfolding rounded_up
rounded_zero b h = div-eq_of_lt (omega arith)

pub rounded_step : (n b : ℕ) → 1 ≤ b → 1 ≤ n → rounded_up n b ≡ 1 + rounded_up (n - b) b
unfolding rounded_up
rounded_step n b h k = go (is_early b n)
  where
    go : Early b n → (n + b - 1) / b ≡ 1 + (n - b + b - 1) / b
    go (late l _) =
        let e : n + b - 1 ≡ (n - 1) + b = omega arith in
        let f : (n - b + b - 1) / b ≡ 0 = div-eq_of_lt (omega arith) in
        ap (λ t. t / b) e ∙ add-div_right (n - 1) h ∙ omega (arith, f, div-eq_of_lt {n = n - 1} {m = b} (omega arith))
    go (early l _) =
        let e : n + b - 1 ≡ (n - b + b - 1) + b = omega arith in
        ap (λ t. t / b) e ∙ add-div_right (n - b + b - 1) h ∙ omega arith
