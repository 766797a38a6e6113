-- The plain machine that is fed a star's posts: heard at station 0 is the tariff.
use mathlib.Core.Path.{◌≡◌, ◌∙◌}
use mathlib.Core.Bool.{true}
use mathlib.Core.List.{List}
use Prim.Native.Nat.{ℕ, ◌+◌, ◌≤◌, ◌<◌}
use native.Mathlib.Omega.{arith}
use Rattle.refusal.specs.Tests.{horizon}
use Rattle.line.specs.declared.Event.{Event}
use Rattle.line.specs.declared.Matter.TheVariants.{Read}
use Rattle.line.specs.Order.{All}
use Rattle.line.specs.Station.{Plan, InRange}
use Rattle.line.proofs.All.{all_map, all_both}
use Rattle.rules.specs.Machine.{Machine, start, Runs}
use Rattle.rules.proofs.Calls.Commit.{Early, early, late, is_early}
use Rattle.tariff.specs.Star.{is_star}
use Rattle.tariff.specs.Tariff.{tariff}
use Rattle.tariff_records.specs.StarPosts.{StarPosts, earlier}
use Rattle.tariff_records.proofs.StarFacts.{star_facts}
use Rattle.tariff_records.proofs.Hands.{Good, reading_good}
use Rattle.tariff_records.proofs.Heard.{machine_heard}
use Rattle.tariff_records.proofs.Earlier.{earlier_all}
use Rattle.tariff_records.proofs.PostsDue.{posts_due}

module _ (p : Plan) (c : ℕ) (xs : List Event) (a : All (λ x. x.target < p.count) xs) (h : 0 < c → StarPosts p (earlier c xs)) where
  posts_good : All (Good p c) xs
  posts_good = go (is_early 0 c)
    where
      go : Early 0 c → All (Good p c) xs
      go (early l _) = all_both (reading_good p c) xs a (earlier_all c (λ x. x.matter ≡ Read) xs (h l).readings)
      go (late l _) = all_map (λ x i. reading_good p c x i (λ k. absurd (omega (arith, l, k)))) xs a

  pub machine_tariff : InRange p → is_star p ≡ true → c ≤ horizon + 1 → (k : Machine) → Runs p c (start p xs) k → (k.states 0).heard ≡ tariff p c
  machine_tariff S star l k r = let T = star_facts p S star in machine_heard p T c l xs k posts_good r ∙ posts_due p T c xs a h
