-- What is answered, case by case.
use Prim.Native.Nat.{ℕ, ◌≤◌, ◌<◌}
use mathlib.Core.Path.{◌≡◌}
use mathlib.Core.Bool.{true, false}
use mathlib.Core.List.{List}
use borrow.Author.Tests.{lt-ltb, le-ltb}
use Rattle.std.specs.Prelude.{Some, None}
use Rattle.plan_format.specs.Line.{line_of}
use Rattle.tariff.specs.Tariff.{tariff, is_star_plan, tariff_of}

module _ (plan : List ℕ) (c : ℕ) where
  pub too_late : 1099511627776 < c → None ≡ tariff_of plan c
  unfolding tariff_of
  too_late h = rw (lt-ltb 1099511627776 c h)

  pub no_star : c ≤ 1099511627776 → is_star_plan plan ≡ false → None ≡ tariff_of plan c
  unfolding tariff_of
  no_star h e = rw (le-ltb 1099511627776 c h, e)

  pub a_star : {sum : ℕ} → c ≤ 1099511627776 → is_star_plan plan ≡ true → sum ≡ tariff (line_of plan) c → Some sum ≡ tariff_of plan c
  unfolding tariff_of
  a_star h e q = rw (le-ltb 1099511627776 c h, e, q)
