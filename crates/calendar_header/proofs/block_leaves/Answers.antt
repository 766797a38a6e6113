-- The row of the shape says how many.
use mathlib.Core.Path.{ap, ◌∙◌}
use Prim.Native.Nat.{ℕ, ◌*◌}
use Rattle.calendar_shapes.specs.Rule.{arity_in}
use Rattle.calendar_cells.specs.Table.{arity_of}
use Rattle.calendar_header.proofs.Leaves.{leaves_many}
use Rattle.calendar_header.proofs.block_leaves.Goals as goal

pub returns : goal.returns
unfolding arity_of
returns c =
    let args = c.args in
    let e = c.leaves.ensures.0 ∙ ap (λ (y : ℕ). arity_in y * arity_in y) c.word.ensures in
    let m = leaves_many args.b.now _ e in
    (e, m.0, m.1)
