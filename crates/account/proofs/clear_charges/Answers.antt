-- The part that holds the charges is filled with 0.
use mathlib.Core.Path.{◌∙◌}
use Prim.Native.Nat.{◌+◌, ◌*◌}
use borrow.Rule.Slice.PartMut.{mid_len}
use Rattle.account.proofs.Storing.{charges_cleared}
use Rattle.account.proofs.clear_charges.Goals as goal

pub returns : goal.returns
returns c =
    let n = c.args.n in
    let l = c.requires.0 in
    charges_cleared n _ c.args.b.now c.fill.new.self l (c.fill.ensures.len ∙ mid_len 8 (8 + 8 * n) c.args.b.now l) (c.fill.ensures.after (λ y e. e))
