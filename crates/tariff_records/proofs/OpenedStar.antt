-- The plan of an accepted opening is accepted, so the tariff's call answers the sum of a star.
use mathlib.Core.Path.{◌≡◌, refl, sym, ◌∙◌}
use mathlib.Core.Bool.{true}
use mathlib.Core.List.{List}
use Prim.Native.Nat.{ℕ, ◌+◌, ◌≤◌}
use native.Mathlib.Omega.{arith}
use lib.ListN.{length}
use Rattle.std.specs.Prelude.{Result, Some, Ok, Err}
use Rattle.refusal.specs.declared.Refusal.{Refusal}
use Rattle.refusal.specs.Tests.{horizon}
use Rattle.plan_format.specs.Line.{line_of}
use Rattle.plan_format.specs.Reading.{judging}
use Rattle.engine_promises.specs.Promises.{Opens}
use Rattle.engine_promises.proofs.OpeningOrder.{opening, opening_is}
use Rattle.tariff.specs.Star.{is_star}
use Rattle.tariff.specs.Tariff.{tariff, is_star_plan, tariff_of}
use Rattle.tariff.proofs.Answering.{a_star}

stations : (a : Result ℕ Refusal) (arity width capacity bytes : ℕ) → Ok tt ≡ opening a arity width capacity bytes → (n : ℕ) × (a ≡ Ok n)
stations (Ok n) arity width capacity bytes e = (n, refl)
stations (Err r) arity width capacity bytes e = let z : ◌≡◌ {A = ℕ} 0 1 = cc in absurd (omega arith)

module _ {plan : List ℕ} {arity width capacity : ℕ} {before xs : List ℕ} (o : Opens plan arity width capacity before (Ok tt) xs)
    (star : is_star (line_of plan) ≡ true) where
  star_plan : is_star_plan plan ≡ true
  unfolding is_star_plan
  star_plan =
      let j = stations (judging plan) arity width capacity (length before) (o.answer ∙ sym (opening_is plan arity width capacity (length before))) in
      rw j.1 star

  pub star_answered : (c heard : ℕ) → c ≤ horizon + 1 → heard ≡ tariff (line_of plan) c → tariff_of plan c ≡ Some heard
  star_answered c heard l e = sym (a_star plan c l star_plan e)
