-- On any bytes at most c of the first c slots have run.
use mathlib.Core.Path.{◌≡◌}
use mathlib.Core.Bool.{Bool, true, false, cond}
use mathlib.Core.List.{List}
use Prim.Native.Nat.{ℕ, zero, suc, ◌+◌, ◌≤◌}
use native.Mathlib.Nat.{le_refl}
use native.Mathlib.Omega.{arith}
use lib.Dec.{eqb}
use Rattle.words.specs.Le.{load_at}
use Rattle.engine_rows.specs.Layout.{slot_row}
use Rattle.engine_moves.specs.RunCount.{runs_below}

pub runs_few : (n : ℕ) (xs : List ℕ) (c : ℕ) → runs_below n xs c ≤ c
unfolding runs_below
runs_few n xs zero = le_refl 0
runs_few n xs (suc i) = go (eqb (load_at 2 (slot_row n i + 60) xs) 2) (runs_few n xs i)
  where
    go : (v : Bool) → runs_below n xs i ≤ i → cond v (suc (runs_below n xs i)) (runs_below n xs i) ≤ suc i
    go true k = omega arith
    go false k = omega arith

-- the same bytes have as many
pub runs_same : (n : ℕ) {xs ys : List ℕ} (c : ℕ) → ys ≡ xs → 0 + runs_below n ys c ≤ runs_below n xs c
runs_same n c e = rw e (omega arith)
