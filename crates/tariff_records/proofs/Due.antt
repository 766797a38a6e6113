-- What is due of an event of a star: the frames that station 0 is still to hear of it before c.
use mathlib.Core.Path.{◌≡◌, refl}
use mathlib.Core.Logic.{◌≢◌}
use mathlib.Core.Bool.{Bool, true, false, cond}
use mathlib.Core.List.{List, [], ◌∷◌, ◌++◌}
use Prim.Native.Nat.{ℕ, ◌+◌, ◌-◌, ◌≤◌, ◌<◌}
use native.Mathlib.Omega.{arith}
use lib.Dec.{ltb, eqb}
use borrow.Author.Tests.{lt-ltb, le-ltb, ne_eqb}
use Rattle.line.specs.declared.Event.{Event}
use Rattle.line.specs.declared.Matter.{Matter}
use Rattle.line.specs.declared.Matter.TheVariants.{Read, Frame, Level}
use Rattle.line.specs.Order.{All}
use Rattle.line.specs.Station.{Plan}
use Rattle.rules.specs.Machine.{Takes, here, there}
use Rattle.rules.proofs.Calls.Commit.{Early, early, late, is_early}
use Rattle.tariff.specs.Tariff.{rounded_up}
use Rattle.tariff_records.proofs.Rounding.{rounded_zero, rounded_step}
use Rattle.tariff_records.proofs.StarFacts.{Star}

-- of the readings of station s from time t on
unfoldable pub brings : Plan → ℕ → ℕ → ℕ → ℕ
brings p c t s = rounded_up (c - (t + (p.config s).hop)) (p.config s).calm

-- of the matter m at time t for station s
unfoldable pub due : Plan → ℕ → ℕ → ℕ → Matter → ℕ
due p c t s Read = cond (eqb s 0) 0 (brings p c t s)
due p c t s (Frame origin repeats) = cond (ltb t c) 1 0
due p c t s (Level mm) = 0

abbrev pub due_of : Plan → ℕ → Event → ℕ
due_of p c x = due p c x.time x.target x.matter

-- of each of the events
unfoldable pub due_all : Plan → ℕ → List Event → ℕ
due_all p c [] = 0
due_all p c (x ∷ xs) = due_of p c x + due_all p c xs

module _ (p : Plan) (c : ℕ) where
  pub due_join : (xs ys : List Event) → due_all p c (xs ++ ys) ≡ due_all p c xs + due_all p c ys
  unfolding due_all
  due_join [] ys = omega arith
  due_join (x ∷ xs) ys = omega (arith, due_join xs ys)

  pub due_last : (xs : List Event) (y : Event) → due_all p c (xs ++ (y ∷ [])) ≡ due_all p c xs + due_of p c y
  unfolding due_all
  due_last [] y = omega arith
  due_last (x ∷ xs) y = omega (arith, due_last xs y)

  pub due_takes : {x : Event} {ws vs : List Event} → Takes x ws vs → due_all p c ws ≡ due_of p c x + due_all p c vs
  unfolding due_all
  due_takes here = refl
  due_takes (there t) = omega (arith, due_takes t)

  -- ---- one event

  pub first_read_due : (t : ℕ) → due p c t 0 Read ≡ 0
  unfolding due
  first_read_due t = refl

  pub read_due : (t s : ℕ) → s ≢ 0 → due p c t s Read ≡ brings p c t s
  unfolding due
  read_due t s n = rw (ne_eqb s 0 n)

  pub frame_due : (t s origin repeats : ℕ) → due p c t s (Frame origin repeats) ≡ cond (ltb t c) 1 0
  unfolding due
  frame_due t s origin repeats = refl

  pub early_frame_due : (t s origin repeats : ℕ) → t < c → due p c t s (Frame origin repeats) ≡ 1
  unfolding due
  early_frame_due t s origin repeats l = rw (lt-ltb t c l)

module _ (p : Plan) (T : Star p) (c : ℕ) where
  -- nothing is due of an event from c on
  pub late_due : (t s : ℕ) (m : Matter) → s < p.count → c ≤ t → due p c t s m ≡ 0
  unfolding due brings
  late_due t s Read h l = go (eqb s 0)
    where
      none_left : c - (t + (p.config s).hop) ≡ 0
      none_left = omega arith

      go : (v : Bool) → cond v 0 (rounded_up (c - (t + (p.config s).hop)) (p.config s).calm) ≡ 0
      go true = refl
      go false = rw none_left (rounded_zero (p.config s).calm (T.each s h).numbers.calm_least)
  late_due t s (Frame origin repeats) h l = rw (le-ltb t c l)
  late_due t s (Level mm) h l = refl

  pub all_late_due : (ws : List Event) → All (λ x. x.target < p.count) ws → All (λ x. c ≤ x.time) ws → due_all p c ws ≡ 0
  unfolding due_all
  all_late_due [] g a = refl
  all_late_due (x ∷ ws) g a = omega (arith, late_due x.time x.target x.matter g.0 a.0, all_late_due ws g.1 a.1)

  -- of a reading are due its own frame and the frames of the next reading
  pub brings_step : (t s : ℕ) → s < p.count → brings p c t s ≡ brings p c (t + (p.config s).calm) s + cond (ltb (t + (p.config s).hop) c) 1 0
  unfolding brings
  brings_step t s h = go (is_early (t + d) c)
    where
      d : ℕ
      d = (p.config s).hop

      b : ℕ
      b = (p.config s).calm

      some : 1 ≤ b
      some = (T.each s h).numbers.calm_least

      go : Early (t + d) c → rounded_up (c - (t + d)) b ≡ rounded_up (c - (t + b + d)) b + cond (ltb (t + d) c) 1 0
      go (late l e) =
          let i : c - (t + d) ≡ 0 = omega arith in
          let j : c - (t + b + d) ≡ 0 = omega arith in
          rw (i, j, e) (omega (arith, rounded_zero b some))
      go (early l e) =
          let j : c - (t + b + d) ≡ c - (t + d) - b = omega arith in
          rw (j, e) (omega (arith, rounded_step (c - (t + d)) b some (omega arith)))
