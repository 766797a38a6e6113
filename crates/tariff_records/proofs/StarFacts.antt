-- What the star's test says of a plan in range, as facts of each station.
use mathlib.Core.Path.{◌≡◌, sym}
use mathlib.Core.Bool.{true}
use Prim.Native.Nat.{ℕ, zero, suc, ◌<◌}
use native.Mathlib.Omega.{arith}
use lib.Dec.{eqb}
use borrow.Author.Tests.{eqb-true}
use Rattle.line.specs.declared.Config.{Config}
use Rattle.line.specs.Station.{Plan, InRange}
use Rattle.line.proofs.Fits.{Fits, and_true, fits}
use Rattle.line.proofs.Order.{Which, this, other, which}
use Rattle.tariff.specs.Star.{star_at, star_below, is_star}

pub record StarAt (s : ℕ) (g : Config) : Type 0 where
  pub to_first : g.parent ≡ 0
  pub quiet : g.noise ≡ 0
  pub even : g.spring ≡ g.calm
  pub numbers : Fits s g

pub record Star (p : Plan) : Type 0 where
  pub each : (s : ℕ) → s < p.count → StarAt s (p.config s)
  pub some : 0 < p.count

star_below_lem : (n : ℕ) (f : ℕ → Config) → star_below n f ≡ true → (s : ℕ) → s < n → star_at (f s) ≡ true
unfolding star_below
star_below_lem zero f e s h = absurd (omega arith)
star_below_lem (suc n) f e s h = go (which s n) (λ l. star_below_lem n f both.0 s l)
  where
    both : (star_below n f ≡ true) × (star_at (f n) ≡ true)
    both = and_true (star_below n f) (star_at (f n)) e

    go : Which s n → (s < n → star_at (f s) ≡ true) → star_at (f s) ≡ true
    go (this k _) ih = rw k both.1
    go (other k _) ih = ih (omega (arith, h, k))

star_at_lem : (s : ℕ) (g : Config) → Fits s g → star_at g ≡ true → StarAt s g
unfolding star_at
star_at_lem s g F e =
    let a = and_true (eqb g.parent 0) _ e in
    let b = and_true (eqb g.noise 0) _ a.1 in
    record { to_first = eqb-true g.parent 0 a.0; quiet = eqb-true g.noise 0 b.0; even = sym (eqb-true g.calm g.spring b.1); numbers = F }

pub star_facts : (p : Plan) → InRange p → is_star p ≡ true → Star p
unfolding is_star
star_facts p S e = record {
  each = λ s h. star_at_lem s (p.config s) (fits s (p.config s) (S.each s h)) (star_below_lem p.count p.config e s h);
  some = S.some;
}
