-- Where the slots and the two tables of links stand: each fact once, so that no proof with much in reach has to find it.
use mathlib.Core.Logic.{◌≢◌}
use Prim.Native.Nat.{ℕ, ◌+◌, ◌*◌, ◌≤◌, ◌<◌}
use native.Mathlib.Omega.{arith}
use Rattle.engine_rows.specs.Layout.{slot_row}
use Rattle.engine_index.specs.Layout.{links_at, log_at, nodes_of, index_bytes, slot_of}

pub one : 0 < 1
one = omega arith

pub only : (u : ℕ) → u < 1 → u ≢ 0 → ⊥
only u h d = d (omega arith)

pub least : (m : ℕ) → m ≤ m
least m = omega arith

-- where the tables and the slots stand
pub from_links : (n c : ℕ) → links_at n c ≤ log_at n c
from_links n c = omega arith

pub links_log : (n c : ℕ) → links_at n c + 4 * nodes_of n c ≤ log_at n c
links_log n c = omega arith

module _ (n c x : ℕ) (lo : 2 * n < x) (hi : x < nodes_of n c) where
  pub slot_links : slot_row n (slot_of n x) + 64 ≤ links_at n c
  slot_links = omega arith

  pub slot_log : slot_row n (slot_of n x) + 64 ≤ log_at n c
  slot_log = omega arith

  pub slot_below : slot_of n x < c
  slot_below = omega arith

  pub slot_room : {size : ℕ} → slot_row n 0 + index_bytes n c ≤ size → slot_row n (slot_of n x) + 64 ≤ size
  slot_room h = omega arith
