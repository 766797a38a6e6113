-- What bytes that stand for cells say of each cell: its slot holds it, its node is a slot's, and its event is at a station.
use mathlib.Core.Path.{subst}
use mathlib.Core.List.{List}
use Prim.Native.Nat.{ℕ, ◌*◌, ◌<◌}
use native.Mathlib.Omega.{arith}
use Rattle.rules.specs.Held.{event}
use Rattle.engine_events.specs.Shows.{Inside}
use Rattle.engine_index.specs.Layout.{nodes_of, slot_of}
use Rattle.engine_index.specs.Represents.{Cell, cell, HeldAt, Stands}
use Rattle.engine_index.proofs.Changes.Mark.{node_of}
use Rattle.engine_events.specs.Represents.{held_of, Has}
use Rattle.engine_moves.proofs.Cells.Split.{Split, split, in_held}

module _ {n c : ℕ} {xs : List ℕ} {cells : List Cell} {free : List ℕ} (S : Stands n c xs cells free) where
  pub member : (y : Cell) → Has y cells
      → HeldAt n xs y.node y.held × (2 * n < y.node) × ((event y.held).target < n) × (y.node < nodes_of n c)
  member y m = go (split y cells m)
    where
      go : Split y cells → HeldAt n xs y.node y.held × (2 * n < y.node) × ((event y.held).target < n) × (y.node < nodes_of n c)
      go r = node_of r.front y r.back (subst (λ l. Stands n c xs l free) r.whole S)

  pub member_target : (y : Cell) → Has y cells → (event y.held).target < n
  member_target y m = (member y m).2

  pub member_slot : (y : Cell) → Has y cells → slot_of n y.node < c
  member_slot y m = let w = member y m in omega (arith, w.1, w.3)

  pub stands_inside : Inside n (held_of cells)
  stands_inside y m = let r = in_held cells y m in (member (cell r.0 y) r.1).2
