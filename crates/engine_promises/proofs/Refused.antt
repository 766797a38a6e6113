-- A refused call gives its number and leaves the bytes.
use mathlib.Core.Path.{◌≡◌, refl}
use mathlib.Core.List.{List}
use Prim.Native.Nat.{ℕ}
use native.Mathlib.Omega.{arith}
use Rattle.std.specs.Prelude.{Option, Some, None, ok_or, Ok, Err}
use Rattle.refusal.specs.declared.Refusal.{Refusal}
use Rattle.refusal.specs.Numbers.{number_of}
use Rattle.refusal.specs.Tests.{refused, judged}
use Rattle.line.specs.Station.{Plan}
use Rattle.rules.specs.Engine.{Engine, Call, Refused}
use Rattle.rules.specs.Checks.{checks}
use Rattle.rules.specs.Calls.{refuse}
use Rattle.engine_promises.specs.Represents.{Represents}
use Rattle.engine_promises.specs.Promises.{Becomes, Answered}
use Rattle.engine_promises.specs.Steps.{JudgesCall, JudgesAndFinds}

module _ {xs : List ℕ} (call : Call) where
  pub refused_so : {p : Plan} {e : Engine} (k : ℕ) → Represents p e xs → judged (checks p e call) ≡ refused k → Becomes p e call (Refused k) xs
  refused_so {p} {e} k R j = record { after = e; answers = refuse j; represents = R }

  pub refusing : (k : ℕ) → JudgesCall call (refused k) xs → Answered call (Refused k) xs xs
  refusing k f = record { refusal = λ n q. refl; answer = λ p e R. refused_so k R (f.says p e R) }

  -- a judging refuses, and so does its call
  module _ {A : Type 0} {IsSo : A → Type 0} where
    pub judges_refusal : (r : Refusal) → JudgesCall call (refused (number_of r)) xs → JudgesAndFinds call xs (Err r) IsSo
    judges_refusal r f = record { number = f; found = λ x q. let z : ◌≡◌ {A = ℕ} 0 1 = cc in absurd (omega arith) }

    pub refused_call : {r : Refusal} → JudgesAndFinds call xs (Err r) IsSo → Answered call (Refused (number_of r)) xs xs
    refused_call {r} J = refusing (number_of r) J.number

-- what `o.ok_or(r)` says of o
pub ok_or_some : {A : Type 0} (o : Option A) (r : Refusal) {x : A} → ok_or o r ≡ Ok x → o ≡ Some x
ok_or_some None r q = let z : ◌≡◌ {A = ℕ} 0 1 = cc in absurd (omega arith)
ok_or_some (Some y) r q = cc

pub ok_or_none : {A : Type 0} (o : Option A) (r : Refusal) {e : Refusal} → ok_or o r ≡ Err e → (o ≡ None) × (e ≡ r)
ok_or_none None r q = (refl, cc)
ok_or_none (Some y) r q = let z : ◌≡◌ {A = ℕ} 0 1 = cc in absurd (omega arith)
