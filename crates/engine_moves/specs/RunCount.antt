-- How many slots have run, on any bytes: the number that falls in a rollback.
use Rattle.std.specs.Prelude.{cond, List, ℕ, zero, suc, ◌+◌, eqb}
use Rattle.words.specs.Le.{load_at}
use Rattle.engine_rows.specs.Layout.{slot_row, run_status}

-- of the slots 0 to i - 1 those that have run
unfoldable pub runs_below : ℕ → List ℕ → ℕ → ℕ
runs_below n xs zero = 0
runs_below n xs (suc i) = cond (eqb (load_at 2 (slot_row n i + 60) xs) run_status) (suc (runs_below n xs i)) (runs_below n xs i)
