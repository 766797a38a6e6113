-- Two numbers are equal or not, and one is below the other or not.
use mathlib.Core.Path.{◌≡◌}
use mathlib.Core.Logic.{◌⊎◌, inl, inr}
use Prim.Native.Nat.{ℕ, ◌≤◌, ◌<◌}
use native.Mathlib.Decide.{dec_lt, ℕ_discrete}
use native.Mathlib.Omega.{arith}

pub eq_or : (m n : ℕ) → (m ≡ n) ⊎ (m ≡ n → ⊥)
eq_or m n = go (ℕ_discrete m n)
  where
    go : Dec (m ≡ n) → (m ≡ n) ⊎ (m ≡ n → ⊥)
    go (yes p) = inl p
    go (no q) = inr q

pub lt_or : (m n : ℕ) → (m < n) ⊎ (n ≤ m)
lt_or m n = go (dec_lt m n)
  where
    go : Dec (m < n) → (m < n) ⊎ (n ≤ m)
    go (yes p) = inl p
    go (no q) = inr (omega arith)
