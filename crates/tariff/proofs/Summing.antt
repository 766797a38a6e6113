-- The sum over the stations other than 0.
use Prim.Native.Nat.{ℕ, zero, suc, ◌+◌, ◌-◌, ◌/◌, ◌≤◌, ◌<◌}
use native.Mathlib.Nat.{div-le_self}
use native.Mathlib.Omega.{arith}
use mathlib.Core.Path.{◌≡◌, sym, ap, subst, ◌∙◌}
use mathlib.Core.List.{List}
use borrow.Author.Tests.{le-leb, lt-leb}
use Rattle.std.specs.Prelude.{Ok}
use Rattle.words.specs.Sums.{sum_to}
use Rattle.line.specs.declared.Config.{Config}
use Rattle.line.proofs.Fits.{fits}
use Rattle.plan_format.specs.Line.{line_of}
use Rattle.plan_format.specs.Plan.{offset_of, config_at, station_at}
use Rattle.plan_format.specs.Reading.{judging}
use Rattle.plan_format.proofs.Accepted.{accepted}
use Rattle.tariff.specs.Tariff.{rounded_up, share, tariff}
use Rattle.tariff.proofs.Checking.{config_is}

-- ---- one station's share

pub none_yet : (g : Config) (c : ℕ) → c ≤ g.hop → 0 ≡ share g c
unfolding share
none_yet g c h = rw (le-leb c g.hop h)

pub rounded : (g : Config) (c : ℕ) → g.hop < c → (c - g.hop + g.calm - 1) / g.calm ≡ share g c
unfolding share rounded_up
rounded g c h = rw (lt-leb c g.hop h)

pub share_most : (x b : ℕ) → x ≤ 1103806595072 → x / b ≤ 1103806595072
share_most x b h = omega (arith, div-le_self x b)

-- ---- the stations of an accepted plan

module _ (plan : List ℕ) (n : ℕ) (e : judging plan ≡ Ok n) where
  pub few : (1 ≤ n) × (n ≤ 256)
  few = let a = accepted plan n e in (a.some, a.most)

  -- each has a calm period of 1 or more
  pub calm_some : (s : ℕ) {g : Config} → s < n → g ≡ config_at plan (offset_of plan s) → 1 ≤ g.calm
  unfolding station_at
  calm_some s {g} l h = subst (λ (x : Config). 1 ≤ x.calm) (sym h) (fits s _ ((accepted plan n e).numbers s l)).calm_least

-- ---- the sum

-- over the stations from 1 up to, not including, s
abbrev pub sum_before : List ℕ → ℕ → ℕ → ℕ
sum_before plan c s = sum_to (s - 1) (λ k. share ((line_of plan).config (suc k)) c)

pub sum_next : (plan : List ℕ) (c s : ℕ) {total r : ℕ} {g : Config} → 1 ≤ s → total ≡ sum_before plan c s → g ≡ config_at plan (offset_of plan s) → r ≡ share g c
    → total + r ≡ sum_before plan c (s + 1)
sum_next plan c zero h e f q = absurd (omega arith)
sum_next plan c (suc k) {total} {r} {g} h e f q =
    let a : suc k + 1 - 1 ≡ suc k = omega arith in
    let b : suc k - 1 ≡ k = omega arith in
    let d : r ≡ share ((line_of plan).config (suc k)) c = q ∙ ap (λ (x : Config). share x c) (config_is plan (suc k) f) in
    rw (a, e, b, d)

pub sum_all : (plan : List ℕ) (n c : ℕ) {s total : ℕ} → judging plan ≡ Ok n → s ≡ n → total ≡ sum_before plan c s → total ≡ tariff (line_of plan) c
unfolding tariff line_of
sum_all plan n c e q h = h ∙ ap (λ (m : ℕ). sum_to (m - 1) (λ k. share (station_at plan (suc k)).config c)) (q ∙ (accepted plan n e).counted)
