-- "the two-station plan of the bench case" (document 02, change 12).
use Rattle.std.specs.Prelude.{ℕ, List, [], ◌∷◌, replicate}
use Rattle.plan_format.specs.declared.Station.{Station}
use Rattle.plan_format.specs.Writing.{plan_of}

-- "Plan: two unnamed stations; periods 1000 and 200, threshold 5000, delay 30, noise 0, seed 1, parents 0." (document 01, "Bench program")
abbrev pub bench_station : Station
bench_station = record {
  config = record { parent = 0; calm = 1000; spring = 200; threshold = 5000; hop = 30; noise = 0; seed = 1 };
  name = replicate 16 0;
  len = 0;
}

unfoldable pub bench_plan : List ℕ
bench_plan = plan_of (bench_station ∷ bench_station ∷ [])
