-- A state that is read from bytes fits its widths.
use mathlib.Core.List.{List}
use Prim.Native.Nat.{ℕ, ◌+◌, ◌^◌, ◌<◌}
use lib.ListN.{get_or}
use Rattle.words.specs.Le.{load_at}
use Rattle.words.proofs.Laws.{load_lt}
use Rattle.engine_records.specs.Records.{state_at}
use Rattle.line.specs.Widths.{StateFits}

module _ (at : ℕ) (xs : List ℕ) (low : (j : ℕ) → get_or xs j 0 < 256) where
  word : (i : ℕ) → load_at 4 i xs < 2 ^ 32
  word i = load_lt 4 i xs low

  pub state_fits : StateFits (state_at at xs)
  unfolding state_at
  state_fits = record { draw = word at; level = word (at + 4); heard = word (at + 8); lost = word (at + 12); sent = word (at + 16); last = load_lt 8 (at + 20) xs low }
