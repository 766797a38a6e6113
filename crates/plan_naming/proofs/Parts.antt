-- The place of a name by the answer that the plan itself has.
use Prim.Native.Nat.{ℕ, ◌<◌}
use mathlib.Core.Path.{◌≡◌, sym, ◌∙◌}
use mathlib.Core.Bool.{cond}
use mathlib.Core.List.{List, [], ◌∷◌}
use Rattle.std.specs.Prelude.{Result, Ok, Err}
use Rattle.refusal.specs.declared.Refusal.{Refusal}
use Rattle.refusal.specs.declared.Refusal.TheVariants.{Station as NoStation}
use Rattle.refusal.specs.Tests.{station_out}
use Rattle.refusal.specs.Cases.{gives}
use Rattle.refusal.proofs.CheckingOrder.{first_mapped, first_more}
use Rattle.plan_format.specs.Plan.{count}
use Rattle.plan_format.specs.Reading.{plan_cases, judging}
use Rattle.plan_naming.specs.Naming.{NamePlace, name_at, naming}
use Rattle.plan_format.proofs.Pairs.{PairRight}
use Rattle.plan_format.proofs.Accepted.{accepted}

-- the place of station k's name in a plan that was judged so
abbrev pub place_in : List ℕ → ℕ → Result ℕ Refusal → Result NamePlace Refusal
place_in p k (Ok n) = cond (station_out n k) (Err NoStation) (Ok (name_at p k))
place_in p k (Err r) = Err r

pub naming_in : (p : List ℕ) (k : ℕ) → naming p k ≡ place_in p k (judging p)
unfolding naming judging
naming_in p k =
    first_more Err (plan_cases p) (gives NoStation (station_out (count p) k) ∷ []) (Ok (name_at p k))
    ∙ sym (first_mapped (place_in p k) Err (plan_cases p) (Ok (count p)))

-- the pair of a station that an accepted plan has
pub station_right : (p : List ℕ) (n k : ℕ) → judging p ≡ Ok n → k < n → PairRight p k
station_right p n k e l = (accepted p n e).right k l
