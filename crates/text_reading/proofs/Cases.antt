-- Which case a total is.
use mathlib.Core.Path.{◌≡◌, refl}
use mathlib.Core.Bool.{Bool, true, false, cond}
use Prim.Native.Nat.{ℕ, ◌≤◌, ◌<◌}
use native.Mathlib.Omega.{arith}
use lib.Dec.{leb}
use borrow.Author.Tests.{leb-true, leb-false}
use Rattle.std.specs.Prelude.{None, Some}
use Rattle.text_reading.specs.Steps.{total_of}

-- one that is over 64 bits
pub over : (t : ℕ) → None ≡ total_of t → 18446744073709551615 < t
over t e = go (leb t 18446744073709551615) refl e
  where
    go : (b : Bool) → leb t 18446744073709551615 ≡ b → None ≡ cond b (Some t) None → 18446744073709551615 < t
    go true l h = absurd (cc)
    go false l h = leb-false t 18446744073709551615 l

-- one that is not
pub sum : (v t : ℕ) → Some v ≡ total_of t → (v ≡ t) × (v ≤ 18446744073709551615)
sum v t e = go (leb t 18446744073709551615) refl e
  where
    go : (b : Bool) → leb t 18446744073709551615 ≡ b → Some v ≡ cond b (Some t) None → (v ≡ t) × (v ≤ 18446744073709551615)
    go true l h = let q : v ≡ t = cc in let m = leb-true t 18446744073709551615 l in (q, omega arith)
    go false l h = absurd (cc)
