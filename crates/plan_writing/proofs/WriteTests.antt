-- The writer's tests as facts: how many stations are wanted, and how many bytes of a name are counted.
use Prim.Native.Nat.{ℕ, ◌≤◌}
use native.Mathlib.Omega.{arith}
use mathlib.Core.Path.{◌≡◌, refl}
use mathlib.Core.Bool.{Bool, true, false, cond, ◌||◌}
use borrow.Author.Tests.{ltb-false}
use lib.Dec.{ltb}
use Rattle.plan_writing.specs.Steps.{wanted, name_bytes}

-- at most 256, and at most what the list has
pub wanted_fits : (n len : ℕ) → (wanted n len ≤ 256) × (wanted n len ≤ len)
wanted_fits n len = go (ltb n 1) (ltb 256 n) (ltb len n) refl refl
  where
    go : (a b d : Bool) → ltb 256 n ≡ b → ltb len n ≡ d → (cond (a || (b || d)) 0 n ≤ 256) × (cond (a || (b || d)) 0 n ≤ len)
    go true b d p q = (omega arith, omega arith)
    go false true d p q = (omega arith, omega arith)
    go false false true p q = (omega arith, omega arith)
    go false false false p q = (ltb-false 256 n p, ltb-false len n q)

-- a name that is counted in full or cut
pub counted_most : (len : ℕ) → name_bytes len ≤ 16
counted_most len = go (ltb 16 len) refl
  where
    go : (t : Bool) → ltb 16 len ≡ t → cond t 16 len ≤ 16
    go true e = omega arith
    go false e = ltb-false 16 len e
