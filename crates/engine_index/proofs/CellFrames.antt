-- The one law of what a change of bytes leaves of the records: a write changes its own cell alone, and a cell whose row lies outside a change is
-- as it was.
use mathlib.Core.Path.{◌≡◌}
use mathlib.Core.Logic.{inl, inr}
use mathlib.Core.List.{List}
use Prim.Native.Nat.{ℕ, ◌+◌, ◌≤◌}
use native.Mathlib.Omega.{arith}
use Rattle.rings.specs.Table.{Outside, Frame}
use Rattle.engine_records.proofs.Cells.{Cell, place, width, Value, read, write, length_write, load_beside, read_same}
use Rattle.engine_rows.proofs.Rows.{In}

-- at most the cell changed
abbrev pub OnlyAt : Cell → List ℕ → List ℕ → Type 0
OnlyAt c xs ys = Frame (place c) (width c) xs ys

pub written_only : (c : Cell) (v : Value c) (xs : List ℕ) → OnlyAt c xs (write c v xs)
written_only c v xs = record { size = length_write c v xs; loads = λ m j h. load_beside c v xs m j h }

pub row_kept : {r w : ℕ} {c : Cell} {a l : ℕ} {xs ys : List ℕ} → In r w c → Frame a l xs ys → Outside a l r w → read c ys ≡ read c xs
row_kept {r} {w} {c} {a} {l} {xs} {ys} I F o = read_same c xs ys (λ m j h k. F.loads m j (part m j h k o))
  where
    part : (m j : ℕ) → place c ≤ j → j + m ≤ place c + width c → Outside a l r w → Outside a l j m
    part m j h k (inl p) = inl (omega (arith, I.from))
    part m j h k (inr p) = inr (omega (arith, I.to))
