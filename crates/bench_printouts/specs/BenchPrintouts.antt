-- A printout of the bench: what it prints for a plan and an input, whatever its buffers held (document 02, change 3).
use Rattle.std.specs.Prelude.{◌≡◌, List, ℕ, length, Ok, Err}
use Rattle.refusal.specs.declared.Refusal.{Refusal}
use Rattle.engine_promises.specs.Promises.{Opens}
use Rattle.bench_answers.specs.Shown.{open_lines}
use Rattle.bench_console.specs.Input.{Ended}

-- "w is 64, capacity 64, the engine's lent bytes 57344"
pub data BenchPrintout (plan input : List ℕ) : List ℕ → Type 0 where
  -- "a refused plan or opening prints that and nothing more"
  refused : {before left : List ℕ} (e : Refusal) → length before ≡ 57344 → Opens plan 16 64 64 before (Err e) left
      → BenchPrintout plan input (open_lines (Err e))
  accepted : {before opened left printed : List ℕ} → length before ≡ 57344 → Opens plan 16 64 64 before (Ok tt) opened → Ended opened input left printed
      → BenchPrintout plan input printed

abbrev pub BenchPrintouts : Type 0
BenchPrintouts = (plan input printed other : List ℕ) → BenchPrintout plan input printed → BenchPrintout plan input other → printed ≡ other
