-- Which plans are stars.
use Prim.Native.Nat.{ℕ, zero, suc, ◌+◌}
use native.Mathlib.Omega.{arith}
use mathlib.Core.Path.{◌≡◌, refl, sym, ap, ◌∙◌}
use mathlib.Core.Bool.{Bool, true, false, ◌&&◌, true≢false}
use mathlib.Core.List.{List}
use Rattle.std.specs.Prelude.{Result, Ok, Err}
use Rattle.std.specs.List.{list_all, range_with_len}
use Rattle.std.proofs.Math.Bool.{and-true, and_assoc}
use Rattle.refusal.specs.declared.Refusal.{Refusal}
use Rattle.line.specs.declared.Config.{Config}
use Rattle.plan_format.specs.Line.{line_of}
use Rattle.plan_format.specs.Plan.{count, offset_of, config_at, station_at}
use Rattle.plan_format.specs.Reading.{judging}
use Rattle.plan_format.proofs.Accepted.{accepted}
use Rattle.tariff.specs.Star.{star_at, star_below, is_star}
use Rattle.tariff.specs.Tariff.{star_in, is_star_plan}

-- ---- station by station

-- the test of one more
all_more : (test : ℕ → Bool) (a n : ℕ) → list_all test (range_with_len a (suc n)) ≡ (list_all test (range_with_len a n) && test (a + n))
all_more test a zero = let e : a ≡ a + 0 = omega arith in and-true (test a) ∙ ap test e
all_more test a (suc n) =
    let e : a + suc n ≡ a + 1 + n = omega arith in
    rw (e, and_assoc (test a) (list_all test (range_with_len (a + 1) n)) (test (a + 1 + n))) (ap (λ b. test a && b) (all_more test (a + 1) n))

pub star_all : (f : ℕ → Config) (n : ℕ) → list_all (λ s. star_at (f s)) (range_with_len 0 n) ≡ star_below n f
unfolding star_below
star_all f zero = refl
star_all f (suc n) = let e : 0 + n ≡ n = omega arith in all_more (λ s. star_at (f s)) 0 n ∙ rw e (ap (λ b. b && star_at (f n)) (star_all f n))

-- the station's numbers as the code reads them
pub config_is : (plan : List ℕ) (s : ℕ) {g : Config} → g ≡ config_at plan (offset_of plan s) → g ≡ (line_of plan).config s
unfolding line_of station_at
config_is plan s e = e

-- ---- the plan

pub judged_no : (plan : List ℕ) {a : Result ℕ Refusal} {r : Refusal} → a ≡ judging plan → a ≡ Err r → is_star_plan plan ≡ false
unfolding is_star_plan
judged_no plan e t = rw (sym e ∙ t)

pub judged_yes : (plan : List ℕ) (n : ℕ) → judging plan ≡ Ok n → is_star_plan plan ≡ star_below n (line_of plan).config
unfolding is_star_plan is_star line_of
judged_yes plan n e = rw e (ap (λ (k : ℕ). star_below k (λ s. (station_at plan s).config)) (sym (accepted plan n e).counted))

stations : (a : Result ℕ Refusal) (star : Bool) → star_in a star ≡ true → (n : ℕ) × (a ≡ Ok n)
stations (Ok n) star e = (n, refl)
stations (Err r) star e = absurd (true≢false (sym e))

-- a plan that is a star's is accepted, with its count of stations
pub star_judged : (plan : List ℕ) → is_star_plan plan ≡ true → judging plan ≡ Ok (count plan)
unfolding is_star_plan
star_judged plan e =
    let j = stations (judging plan) _ e in
    j.1 ∙ ap Ok (accepted plan j.0 j.1).counted
