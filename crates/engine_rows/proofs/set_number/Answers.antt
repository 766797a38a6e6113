-- The test decides between the store and nothing.
use Prim.Native.Nat.{◌+◌, ◌*◌}
use Rattle.words.specs.Le.{store_at}
use mathlib.Core.Path.{◌∙◌, ap, refl}
use native.Mathlib.Omega.{arith}
use Rattle.engine_rows.proofs.set_number.Goals as goal

pub returns-then-k-ge4 : goal.returns-then-k-ge4
returns-then-k-ge4 c =
    (λ h. absurd (omega arith), λ h. refl)

pub returns : goal.returns
returns c =
    let a = c.args in
    (λ h. c.store.ensures ∙ ap (λ z. store_at 2 (z + 56 + 2 * a.k) a.v a.b.now) c.slot_row.ensures.0, λ h. absurd (omega arith))
