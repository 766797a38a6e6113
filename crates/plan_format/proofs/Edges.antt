-- The edges of document 01 ("Edges") that are about a plan.
use Prim.Native.Nat.{ℕ, ◌≤◌}
use native.Mathlib.Omega.{arith}
use mathlib.Core.Path.{◌≡◌, refl, ◌∙◌}
use mathlib.Core.List.{List, [], ◌∷◌}
use lib.ListN.{length, replicate}
use Rattle.words.specs.Le.{le_at, load_at}
use Rattle.refusal.specs.declared.Refusal.TheVariants.{Output}
use Rattle.refusal.specs.Tests.{refused}
use Rattle.line.specs.Station.{parent_out, number_out}
use Rattle.std.specs.Prelude.{Ok, Err}
use Rattle.plan_format.specs.Lowest.{lowest}
use Rattle.plan_format.specs.Plan.{offset_of, begins, config_at, station_at, stations_from, pair_wrong, field_wrong, any_out, name_out, name_wrong}
use Rattle.plan_format.specs.Numbers.{read_says}
use Rattle.plan_format.specs.Reading.{judging, reading}
use Rattle.plan_format.proofs.Accepted.{accepted, begins_first}

-- "No bytes: 1"
pub no_bytes : read_says (judging []) ≡ refused 1
unfolding judging
no_bytes = refl

-- "One station: offset 10, 36 bytes at least"
pub one_station : (p : List ℕ) → judging p ≡ Ok 1 → (offset_of p 0 ≡ 10) × (36 ≤ length p)
one_station p e =
    let a = accepted p 1 e in
    let r = a.right 0 a.some in
    let o : offset_of p 0 ≡ 10 = r.placed ∙ begins_first p 1 a in
    (o, omega arith)

-- such a plan, of 36 bytes
abbrev pub smallest : List ℕ
smallest =
    1 ∷ 0 ∷ 10 ∷ 0 ∷ 0 ∷ 0 ∷ 26 ∷ 0 ∷ 0 ∷ 0 ∷ 0 ∷ 0 ∷ 232 ∷ 3 ∷ 0 ∷ 0 ∷ 200 ∷ 0 ∷ 0 ∷ 0 ∷ 136 ∷ 19 ∷ 0 ∷ 0 ∷ 30 ∷ 0 ∷ 0 ∷ 0 ∷ 0 ∷ 0 ∷ 0 ∷ 0
    ∷ 1 ∷ 0 ∷ 0 ∷ 0 ∷ []

pub smallest_read : judging smallest ≡ Ok 1
unfolding judging lowest pair_wrong field_wrong name_wrong name_out any_out station_at config_at begins load_at le_at number_out parent_out
smallest_read = refl

-- number 18: a list of no records, one of a record
pub smallest_no_room : reading smallest 0 ≡ Err Output
unfolding reading judging lowest pair_wrong field_wrong name_wrong name_out any_out station_at config_at begins load_at le_at number_out parent_out
smallest_no_room = refl

pub smallest_room : reading smallest 1 ≡ Ok 1
unfolding reading judging lowest pair_wrong field_wrong name_wrong name_out any_out station_at config_at begins load_at le_at number_out parent_out
smallest_room = refl

pub smallest_stations :
    stations_from smallest 0 1
    ≡ record {
      config = record { parent = 0; calm = 1000; spring = 200; threshold = 5000; hop = 30; noise = 0; seed = 1 };
      name = replicate 16 0;
      len = 0;
    }
    ∷ []
unfolding stations_from station_at config_at load_at le_at
smallest_stations = refl
