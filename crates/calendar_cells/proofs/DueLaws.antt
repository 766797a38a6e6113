-- A station's word holds its due number and its bucket.
use mathlib.Core.Path.{◌≡◌, ap}
use mathlib.Core.List.{List}
use Prim.Native.Nat.{ℕ, ◌+◌, ◌*◌, ◌/◌, ◌%◌, ◌<◌}
use native.Mathlib.Omega.{arith}
use Rattle.calendar_cells.specs.Cells.{word_at}
use Rattle.calendar_cells.specs.Table.{due_of, bucket_of, arity_of}

pub due_same : (xs ys : List ℕ) (s : ℕ) → word_at (8 + s) ys ≡ word_at (8 + s) xs → due_of ys s ≡ due_of xs s
unfolding due_of
due_same xs ys s e = ap (λ (w : ℕ). w % 2199023255552) e

pub bucket_same : (xs ys : List ℕ) (s : ℕ) → word_at (8 + s) ys ≡ word_at (8 + s) xs → bucket_of ys s ≡ bucket_of xs s
unfolding bucket_of
bucket_same xs ys s e = ap (λ (w : ℕ). w / 2199023255552) e

pub arity_same : (xs ys : List ℕ) → word_at 7 ys ≡ word_at 7 xs → arity_of ys ≡ arity_of xs
unfolding arity_of
arity_same xs ys e = rw e

pub due_set : (xs : List ℕ) (s d l : ℕ) → d < 2199023255552 → word_at (8 + s) xs ≡ l * 2199023255552 + d → due_of xs s ≡ d
unfolding due_of
due_set xs s d l h e = omega arith

pub bucket_set : (xs : List ℕ) (s d l : ℕ) → d < 2199023255552 → word_at (8 + s) xs ≡ l * 2199023255552 + d → bucket_of xs s ≡ l
unfolding bucket_of
bucket_set xs s d l h e = omega arith
