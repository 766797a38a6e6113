-- The test decides between the number and 0.
use Prim.Native.Nat.{◌+◌, ◌*◌}
use Rattle.words.specs.Le.{load_at}
use mathlib.Core.Path.{◌∙◌, ap}
use native.Mathlib.Omega.{arith}
use Rattle.engine_rows.proofs.number.Goals as goal

pub returns : goal.returns
returns c =
    (λ h. c.load.ensures ∙ ap (λ z. load_at 2 (z + 56 + 2 * c.args.k) c.args.b.now) c.slot_row.ensures.0, λ h. absurd (omega arith))
