-- In which order an opening's numbers are checked: the plan's, then 26, then the others.
use mathlib.Core.Path.{◌≡◌}
use mathlib.Core.Bool.{true}
use mathlib.Core.List.{List}
use Prim.Native.Nat.{ℕ}
use Rattle.std.specs.Prelude.{Result, Ok, Err}
use Rattle.refusal.specs.declared.Refusal.{Refusal}
use Rattle.refusal.specs.declared.Refusal.TheVariants.{Arity}
use Rattle.refusal.specs.Tests.{arity_out}
use Rattle.refusal.specs.Cases.{first_of}
use Rattle.refusal.proofs.CheckingOrder.{first_mapped}
use Rattle.plan_format.specs.Plan.{count}
use Rattle.plan_format.specs.Reading.{plan_cases, judging}
use Rattle.engine_promises.specs.Promises.{choice_cases, open_cases}

-- which of 26, 6 and 7 refuses, of n stations
abbrev pub choosing : ℕ → ℕ → ℕ → ℕ → ℕ → Result Unit Refusal
choosing n arity width capacity bytes = first_of Err (choice_cases n arity width capacity bytes) (Ok tt)

-- by the plan's answer
abbrev pub opening : Result ℕ Refusal → ℕ → ℕ → ℕ → ℕ → Result Unit Refusal
opening (Err e) arity width capacity bytes = Err e
opening (Ok n) arity width capacity bytes = choosing n arity width capacity bytes

pub opening_is : (plan : List ℕ) (arity width capacity bytes : ℕ)
    → opening (judging plan) arity width capacity bytes ≡ first_of Err (open_cases plan arity width capacity bytes) (Ok tt)
unfolding judging
opening_is plan arity width capacity bytes = first_mapped (λ a. opening a arity width capacity bytes) Err (plan_cases plan) (Ok (count plan))

pub arity_first : (n arity width capacity bytes : ℕ) → arity_out arity ≡ true → Err Arity ≡ choosing n arity width capacity bytes
arity_first n arity width capacity bytes e = rw e
