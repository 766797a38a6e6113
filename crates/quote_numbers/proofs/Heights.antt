-- How high a number is drawn, by the tests of `height`.
use mathlib.Core.Path.{◌≡◌, refl}
use Rattle.std.specs.Prelude.{min}
use Prim.Native.Nat.{ℕ, zero, suc, ◌*◌, ◌/◌, ◌≤◌, ◌<◌}
use Rattle.std.proofs.Math.Nat.{min_comm}
use native.Mathlib.Omega.{arith}
use borrow.Author.Tests.{le-leb, lt-leb}
use Rattle.quote_numbers.specs.Heights.{height_of}

pub no_top : (v top : ℕ) → top ≡ 0 → 0 ≡ height_of v top
unfolding height_of
no_top v zero e = refl
no_top v (suc t) e = absurd (omega arith)

pub too_many : (v top : ℕ) → (top ≡ 0 → ⊥) → 1000000000000 < v → 280 ≡ height_of v top
unfolding height_of
too_many v zero e h = absurd (e refl)
too_many v (suc t) e h = rw (lt-leb v 1000000000000 h)

pub under_top : (v top : ℕ) → (top ≡ 0 → ⊥) → v ≤ 1000000000000 → min (280 * v / top) 280 ≡ height_of v top
unfolding height_of
under_top v zero e h = absurd (e refl)
under_top v (suc t) e h = rw (le-leb v 1000000000000 h) (min_comm (280 * v / suc t) 280)
