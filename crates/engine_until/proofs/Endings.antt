-- Which refusals end a run to a time.
use mathlib.Core.Path.{refl}
use mathlib.Core.Logic.{◌≢◌}
use native.Mathlib.Omega.{arith}
use Rattle.refusal.specs.declared.Refusal.{Refusal}
use Rattle.refusal.specs.declared.Refusal.TheVariants.{Shape, Pair, Trailing, Field, Name, Width, Space, Command, Station, Matter, Late, Early, Post, Idle, Unrun, Count, Full, Output, Part, Charge, Arity}
use Rattle.refusal.specs.Numbers.{number_of}
use Rattle.engine_until.specs.Promises.{Ending}

-- all but 14, 15 and 17
pub ending : (e : Refusal) → e ≢ Idle → e ≢ Unrun → e ≢ Full → Ending (number_of e)
ending Shape a b d = (λ q. omega arith, λ q. omega arith, λ q. omega arith)
ending (Pair s) a b d = (λ q. omega arith, λ q. omega arith, λ q. omega arith)
ending Trailing a b d = (λ q. omega arith, λ q. omega arith, λ q. omega arith)
ending (Field s) a b d = (λ q. omega arith, λ q. omega arith, λ q. omega arith)
ending (Name s) a b d = (λ q. omega arith, λ q. omega arith, λ q. omega arith)
ending Width a b d = (λ q. omega arith, λ q. omega arith, λ q. omega arith)
ending Space a b d = (λ q. omega arith, λ q. omega arith, λ q. omega arith)
ending Command a b d = (λ q. omega arith, λ q. omega arith, λ q. omega arith)
ending Station a b d = (λ q. omega arith, λ q. omega arith, λ q. omega arith)
ending Matter a b d = (λ q. omega arith, λ q. omega arith, λ q. omega arith)
ending Late a b d = (λ q. omega arith, λ q. omega arith, λ q. omega arith)
ending Early a b d = (λ q. omega arith, λ q. omega arith, λ q. omega arith)
ending Post a b d = (λ q. omega arith, λ q. omega arith, λ q. omega arith)
ending Idle a b d = absurd (a refl)
ending Unrun a b d = absurd (b refl)
ending Count a b d = (λ q. omega arith, λ q. omega arith, λ q. omega arith)
ending Full a b d = absurd (d refl)
ending Output a b d = (λ q. omega arith, λ q. omega arith, λ q. omega arith)
ending Part a b d = (λ q. omega arith, λ q. omega arith, λ q. omega arith)
ending Charge a b d = (λ q. omega arith, λ q. omega arith, λ q. omega arith)
ending Arity a b d = (λ q. omega arith, λ q. omega arith, λ q. omega arith)
