-- What a walk does where it stands: it stops, or goes on.
use mathlib.Core.Path.{◌≡◌, refl}
use mathlib.Core.Bool.{Bool, true, false}
use Prim.Native.Nat.{ℕ, zero, suc, ◌-◌, ◌<◌, ◌≤◌}
use native.Mathlib.Omega.{arith}
use Rattle.rings.specs.Walk.{steps}

module _ (f : ℕ → ℕ) (stop : ℕ → Bool) where
  pub at_none : (fuel i : ℕ) → fuel ≤ 0 → steps f stop fuel i ≡ i
  unfolding steps
  at_none zero i h = refl
  at_none (suc n) i h = absurd (omega arith)

  pub at_stop : (fuel i : ℕ) → stop i ≡ true → steps f stop fuel i ≡ i
  unfolding steps
  at_stop zero i e = refl
  at_stop (suc n) i e = rw e

  pub at_step : (fuel i : ℕ) → 0 < fuel → stop i ≡ false → steps f stop fuel i ≡ steps f stop (fuel - 1) (f i)
  unfolding steps
  at_step zero i p e = absurd (omega arith)
  at_step (suc n) i p e = let z : suc n - 1 ≡ n = omega arith in rw (z, e)
