-- The events before c: what holds of them, and what of a list is the same for them.
use mathlib.Core.Path.{◌≡◌, refl, sym, ap, ◌∙◌}
use mathlib.Core.Logic.{◌≢◌}
use mathlib.Core.Bool.{Bool, true, false, cond}
use mathlib.Core.List.{List, [], ◌∷◌, ◌++◌}
use Prim.Native.Nat.{ℕ, suc, ◌≤◌, ◌<◌}
use native.Mathlib.Omega.{arith}
use lib.Dec.{ltb, eqb}
use Rattle.line.specs.declared.Event.{Event}
use Rattle.line.specs.Order.{All}
use Rattle.line.specs.Station.{Plan}
use Rattle.line.proofs.Order.{Which, this, other, which}
use Rattle.rules.proofs.Calls.Commit.{Early, early, late, is_early}
use Rattle.tariff_records.specs.StarPosts.{count_at, StarPosts, earlier}

module _ (c : ℕ) where
  pub early_one : (x : Event) (xs : List Event) → x.time < c → earlier c (x ∷ xs) ≡ x ∷ earlier c xs
  unfolding earlier
  early_one x xs l = go (is_early x.time c)
    where
      go : Early x.time c → cond (ltb x.time c) (x ∷ earlier c xs) (earlier c xs) ≡ x ∷ earlier c xs
      go (early _ e) = rw e
      go (late k _) = absurd (omega arith)

  pub late_one : (x : Event) (xs : List Event) → c ≤ x.time → earlier c (x ∷ xs) ≡ earlier c xs
  unfolding earlier
  late_one x xs l = go (is_early x.time c)
    where
      go : Early x.time c → cond (ltb x.time c) (x ∷ earlier c xs) (earlier c xs) ≡ earlier c xs
      go (early k _) = absurd (omega arith)
      go (late _ e) = rw e

  pub early_next : (x : Event) (xs ys : List Event) → earlier c xs ≡ earlier c ys → earlier c (x ∷ xs) ≡ earlier c (x ∷ ys)
  unfolding earlier
  early_next x xs ys e = ap (λ (zs : List Event). cond (ltb x.time c) (x ∷ zs) zs) e

  pub late_last : (xs : List Event) (x : Event) → c ≤ x.time → earlier c (xs ++ (x ∷ [])) ≡ earlier c xs
  late_last [] x l = late_one x [] l
  late_last (y ∷ xs) x l = early_next y (xs ++ (x ∷ [])) xs (late_last xs x l)

  -- ---- what holds of each

  pub all_earlier : (P : Event → Type 0) (xs : List Event) → All P xs → All P (earlier c xs)
  unfolding earlier
  all_earlier P [] a = tt
  all_earlier P (x ∷ xs) a = go (ltb x.time c) (all_earlier P xs a.1)
    where
      go : (v : Bool) → All P (earlier c xs) → All P (cond v (x ∷ earlier c xs) (earlier c xs))
      go true i = (a.0, i)
      go false i = i

  pub earlier_all : (P : Event → Type 0) (xs : List Event) → All P (earlier c xs) → All (λ x. x.time < c → P x) xs
  unfolding earlier
  earlier_all P [] a = tt
  earlier_all P (x ∷ xs) a = go (is_early x.time c) (earlier_all P xs)
    where
      go : Early x.time c → (All P (earlier c xs) → All (λ y. y.time < c → P y) xs) → All (λ y. y.time < c → P y) (x ∷ xs)
      go (early _ e) ih = let b : All P (x ∷ earlier c xs) = rw e at a in (λ _. b.0, ih b.1)
      go (late l e) ih = let b : All P (earlier c xs) = rw e at a in (λ k. absurd (omega (arith, l, k)), ih b)

  -- ---- a star's posts

  count_earlier : 0 < c → (s : ℕ) → s ≢ 0 → (xs : List Event) → All (λ x. x.target ≢ 0 → x.time ≡ 0) xs → count_at s (earlier c xs) ≡ count_at s xs
  unfolding count_at earlier
  count_earlier h s n [] a = refl
  count_earlier h s n (x ∷ xs) a = go (is_early x.time c) (which x.target s) (count_earlier h s n xs a.1)
    where
      go : Early x.time c → Which x.target s → count_at s (earlier c xs) ≡ count_at s xs
          → count_at s (cond (ltb x.time c) (x ∷ earlier c xs) (earlier c xs)) ≡ cond (eqb x.target s) (suc (count_at s xs)) (count_at s xs)
      go (early _ e) w ih = rw (e, ih)
      go (late l _) (this k _) ih = absurd (omega (arith, l, h, a.0 (λ z. n (sym k ∙ z))))
      go (late _ e) (other _ f) ih = rw (e, f) ih

  pub star_earlier : (p : Plan) (xs : List Event) → 0 < c → StarPosts p xs → StarPosts p (earlier c xs)
  star_earlier p xs h S = record {
    readings = all_earlier _ xs S.readings;
    at_start = all_earlier _ xs S.at_start;
    once = λ s n l. count_earlier h s n xs S.at_start ∙ S.once s n l;
  }
