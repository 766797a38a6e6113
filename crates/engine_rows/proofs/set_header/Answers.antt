-- The test decides between the store and nothing.
use mathlib.Core.Path.{refl}
use native.Mathlib.Omega.{arith}
use Rattle.engine_rows.proofs.set_header.Goals as goal

pub returns-then-i-ge8 : goal.returns-then-i-ge8
returns-then-i-ge8 c =
    (λ h. absurd (omega arith), λ h. refl)

pub returns : goal.returns
returns c =
    (λ h. c.store.ensures, λ h. absurd (omega arith))
