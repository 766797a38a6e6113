-- An answer and an output that are the definition's keep the whole promise.
use mathlib.Core.Path.{◌≡◌, ◌∙◌, ap}
use mathlib.Core.List.{List}
use Prim.Native.Nat.{ℕ}
use lib.ListN.{length, take}
use Rattle.plan_format.specs.declared.Station.{Station}
use Rattle.std.specs.Prelude.{Result}
use Rattle.refusal.specs.declared.Refusal.{Refusal}
use Rattle.plan_format.specs.Numbers.{write_says, write_station}
use Rattle.plan_format.specs.Typed.{AreSized}
use Rattle.plan_format.specs.Writing.{plan_of, write_cases, writing, left}
use Rattle.plan_format.proofs.Answers.{answer_number, answer_station_lem}
use Rattle.plan_writing.specs.Promises.{WritesPlan}

pub writes_as : {ss : List Station} {n : ℕ} {out after : List ℕ} {r : Result ℕ Refusal} → r ≡ writing n ss (length out) → AreSized ss → after ≡ left r (plan_of (take n ss)) out
    → WritesPlan ss n out r after
unfolding writing
writes_as {ss} {n} {out} e t l = record {
  answer = e;
  number = ap write_says e ∙ answer_number (write_cases n ss (length out)) _;
  station = ap write_station e ∙ answer_station_lem (write_cases n ss (length out)) _;
  typed = t;
  output = l;
}
