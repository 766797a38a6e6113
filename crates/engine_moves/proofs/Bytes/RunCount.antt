-- How many slots have run, where one of them has not run after a change that leaves the others: no more than before, and less if it had run.
use mathlib.Core.Path.{◌≡◌}
use mathlib.Core.Logic.{◌≢◌}
use mathlib.Core.Bool.{Bool, true, false, cond}
use mathlib.Core.List.{List}
use Prim.Native.Nat.{ℕ, zero, suc, ◌+◌, ◌≤◌, ◌<◌}
use native.Mathlib.Omega.{arith}
use borrow.Author.Tests.{eq-eqb, ne_eqb}
use lib.Dec.{eqb}
use Rattle.words.specs.Le.{load_at}
use Rattle.line.proofs.Order.{Which, this, other, which}
use Rattle.engine_rows.specs.Layout.{slot_row}
use Rattle.engine_moves.specs.RunCount.{runs_below}

module _ (n : ℕ) (xs ys : List ℕ) where
  abbrev Same : ℕ → Type 0
  Same i = load_at 2 (slot_row n i + 60) ys ≡ load_at 2 (slot_row n i + 60) xs

  -- slot z has not run after it, and the others are as they were
  module _ (z : ℕ) (left : load_at 2 (slot_row n z + 60) ys ≢ 2) where
    pub runs_most : (c : ℕ) → ((i : ℕ) → i < c → i ≢ z → Same i) → runs_below n ys c ≤ runs_below n xs c
    unfolding runs_below
    runs_most zero f = omega arith
    runs_most (suc c) f = go (which c z) (runs_most c (λ i l. f i (omega arith)))
      where
        add : (v : Bool) (k l : ℕ) → k ≤ l → cond v (suc k) k ≤ cond v (suc l) l
        add true k l h = omega arith
        add false k l h = h

        out : (v : Bool) (k l : ℕ) → k ≤ l → k ≤ cond v (suc l) l
        out true k l h = omega arith
        out false k l h = h

        go : Which c z → runs_below n ys c ≤ runs_below n xs c → runs_below n ys (suc c) ≤ runs_below n xs (suc c)
        go (this e _) h = rw (ne_eqb (load_at 2 (slot_row n c + 60) ys) 2 (rw e left)) (out (eqb (load_at 2 (slot_row n c + 60) xs) 2) _ _ h)
        go (other e _) h = rw (f c (omega arith) e) (add (eqb (load_at 2 (slot_row n c + 60) xs) 2) _ _ h)

    pub runs_less : (c : ℕ) → z < c → load_at 2 (slot_row n z + 60) xs ≡ 2 → ((i : ℕ) → i < c → i ≢ z → Same i)
        → 1 + runs_below n ys c ≤ runs_below n xs c
    unfolding runs_below
    runs_less zero l e f = absurd (omega arith)
    runs_less (suc c) l e f = go (which c z) (λ k. runs_less c k e (λ i l. f i (omega arith)))
      where
        add : (v : Bool) (k l : ℕ) → 1 + k ≤ l → 1 + cond v (suc k) k ≤ cond v (suc l) l
        add true k l h = omega arith
        add false k l h = h

        go : Which c z → (z < c → 1 + runs_below n ys c ≤ runs_below n xs c) → 1 + runs_below n ys (suc c) ≤ runs_below n xs (suc c)
        go (this q _) h =
            let k = runs_most c (λ i l. f i (omega arith)) in
            rw (ne_eqb (load_at 2 (slot_row n c + 60) ys) 2 (rw q left), eq-eqb (load_at 2 (slot_row n c + 60) xs) 2 (rw q e)) (omega arith)
        go (other q _) h = rw (f c (omega arith) q) (add (eqb (load_at 2 (slot_row n c + 60) xs) 2) _ _ (h (omega arith)))
