-- Reached where the times are equal, busy where 17 was met and nothing written; else the refusal says it.
use mathlib.Core.Path.{◌≡◌, refl, ap, ◌∙◌}
use native.Mathlib.Omega.{arith}
use Rattle.std.specs.Prelude.{Err}
use Rattle.refusal.specs.declared.Refusal.TheVariants.{Full}
use Rattle.engine_until.specs.Steps.{reached, ran, busy, refused}
use Rattle.engine_until.proofs.settle.Goals as goal

pub returns-then-c-time : goal.returns-then-c-time
returns-then-c-time c = reached (omega arith)

pub returns-in-Ok : goal.returns-in-Ok
returns-in-Ok c = ran

pub returns-in-Err-Full : goal.returns-in-Err-Full
returns-in-Err-Full c =
    let full : c.in-Err-Full.field-0 ≡ Full = rw c.in-Err-Full.is at c.in-Err-Full.field-0-is in
    busy Full (λ q. omega arith) (c.in-Err-Full.is ∙ ap Err full) refl (omega (arith, c.if-count-eq0.true))

pub returns-in-Err : goal.returns-in-Err
returns-in-Err c = refused c.in-Err.e c.in-Err.is c.after_refusal.ensures
