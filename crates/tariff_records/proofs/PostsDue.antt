-- What is due of a star's posts is the tariff.
use mathlib.Core.Path.{◌≡◌, refl, sym, ap, ◌∙◌}
use mathlib.Core.Logic.{◌≢◌}
use mathlib.Core.List.{List, [], ◌∷◌}
use Prim.Native.Nat.{ℕ, zero, suc, ◌+◌, ◌-◌, ◌*◌, ◌<◌}
use native.Mathlib.Omega.{arith}
use borrow.Author.Tests.{eq-eqb, ne_eqb}
use Rattle.words.specs.Sums.{sum_to}
use Rattle.words.proofs.Sums.{sum_same, sum_change, sum_none}
use Rattle.line.specs.declared.Config.{Config}
use Rattle.line.specs.declared.Event.{Event}
use Rattle.line.specs.declared.Matter.TheVariants.{Read}
use Rattle.line.specs.Order.{All}
use Rattle.line.specs.Station.{Plan}
use Rattle.line.proofs.All.{all_map}
use Rattle.line.proofs.Order.{Which, this, other, which}
use Rattle.rules.proofs.Calls.Commit.{Early, early, late, is_early}
use Rattle.tariff.specs.Tariff.{rounded_up, share, tariff}
use Rattle.tariff.proofs.Summing.{none_yet, rounded}
use Rattle.tariff_records.specs.StarPosts.{count_at, StarPosts, earlier}
use Rattle.tariff_records.proofs.Rounding.{rounded_zero}
use Rattle.tariff_records.proofs.StarFacts.{Star}
use Rattle.tariff_records.proofs.Due.{brings, due, due_of, due_all, first_read_due, read_due, late_due, all_late_due}
use Rattle.tariff_records.proofs.Earlier.{early_one, late_one, all_earlier}

-- the first term apart
sum_first : (n : ℕ) (f : ℕ → ℕ) → sum_to (suc n) f ≡ f 0 + sum_to n (λ k. f (suc k))
sum_first zero f = omega arith
sum_first (suc n) f = omega (arith, sum_first n f)

module _ (p : Plan) (T : Star p) (c : ℕ) where
  -- no post from c on counts
  earlier_due : (xs : List Event) → All (λ x. x.target < p.count) xs → due_all p c xs ≡ due_all p c (earlier c xs)
  unfolding due_all earlier
  earlier_due [] a = refl
  earlier_due (x ∷ xs) a = go (is_early x.time c) (earlier_due xs a.1)
    where
      go : Early x.time c → due_all p c xs ≡ due_all p c (earlier c xs) → due_of p c x + due_all p c xs ≡ due_all p c (earlier c (x ∷ xs))
      go (early l _) ih = rw (early_one c x xs l, ih)
      go (late l _) ih = rw (late_one c x xs l) (omega (arith, ih, late_due p T c x.time x.target x.matter a.0 l))

  -- ---- station by station

  -- what the readings of station s bring, from one at time 0 on
  abbrev owed : ℕ → ℕ
  owed s = due p c 0 s Read

  -- a star's post
  record Starts (x : Event) : Type 0 where
    inside : x.target < p.count
    reads : x.matter ≡ Read
    at_start : x.target ≢ 0 → x.time ≡ 0

  starts : (xs : List Event) → All (λ x. x.target < p.count) xs → All (λ x. x.matter ≡ Read) xs → All (λ x. x.target ≢ 0 → x.time ≡ 0) xs → All Starts xs
  starts [] a b d = tt
  starts (x ∷ xs) a b d = (record { inside = a.0; reads = b.0; at_start = d.0 }, starts xs a.1 b.1 d.1)

  post_due : (x : Event) → Starts x → due_of p c x ≡ owed x.target
  post_due x i = ap (due p c x.time x.target) i.reads ∙ go (which x.target 0)
    where
      go : Which x.target 0 → due p c x.time x.target Read ≡ due p c 0 x.target Read
      go (this e _) = rw (e, first_read_due p c x.time, first_read_due p c 0)
      go (other n _) = ap (λ t. due p c t x.target Read) (i.at_start n)

  count_none : (s : ℕ) → count_at s [] * owed s ≡ 0
  unfolding count_at
  count_none s = omega arith

  count_this : (x : Event) (xs : List Event) → count_at x.target (x ∷ xs) ≡ suc (count_at x.target xs)
  unfolding count_at
  count_this x xs = rw (eq-eqb x.target x.target refl)

  count_other : (s : ℕ) (x : Event) (xs : List Event) → s ≢ x.target → count_at s (x ∷ xs) ≡ count_at s xs
  unfolding count_at
  count_other s x xs n = rw (ne_eqb x.target s (λ e. n (sym e)))

  due_sum : (xs : List Event) → All Starts xs → due_all p c xs ≡ sum_to p.count (λ s. count_at s xs * owed s)
  unfolding due_all
  due_sum [] a = sym (sum_none p.count (λ s. count_at s [] * owed s) (λ s _. count_none s))
  due_sum (x ∷ xs) a =
      let u = x.target in
      let e = sum_change p.count (λ s. count_at s (x ∷ xs) * owed s) (λ s. count_at s xs * owed s) u a.0.inside differ in
      omega (arith, due_sum xs a.1, post_due x a.0, e, one)
    where
      differ : (s : ℕ) → s < p.count → s ≢ x.target → count_at s (x ∷ xs) * owed s ≡ count_at s xs * owed s
      differ s l n = ap (λ k. k * owed s) (count_other s x xs n)

      one : count_at x.target (x ∷ xs) * owed x.target ≡ owed x.target + count_at x.target xs * owed x.target
      one = rw (count_this x xs) (omega arith)

  -- ---- the paper's sum

  owed_share : (s : ℕ) → s ≢ 0 → s < p.count → owed s ≡ share (p.config s) c
  unfolding brings rounded_up
  owed_share s n h = read_due p c 0 s n ∙ go (is_early g.hop c)
    where
      g : Config
      g = p.config s

      go : Early g.hop c → brings p c 0 s ≡ share g c
      go (early l _) =
          let i : 0 + g.hop ≡ g.hop = omega arith in
          rw i (rounded g c l)
      go (late l _) =
          let i : c - (0 + g.hop) ≡ 0 = omega arith in
          rw i (rounded_zero g.calm (T.each s h).numbers.calm_least) ∙ none_yet g c l

  tariff_owed : sum_to p.count owed ≡ tariff p c
  unfolding tariff
  tariff_owed =
      let e : p.count ≡ suc (p.count - 1) = omega (arith, T.some) in
      let each : (k : ℕ) → k < p.count - 1 → owed (suc k) ≡ share (p.config (suc k)) c = λ k l. owed_share (suc k) (omega arith) (omega (arith, l, e)) in
      ap (λ n. sum_to n owed) e ∙ sum_first (p.count - 1) owed
      ∙ omega (arith, first_read_due p c 0, sum_same (p.count - 1) (λ k. owed (suc k)) (λ k. share (p.config (suc k)) c) each)

  star_due : (xs : List Event) → All (λ x. x.target < p.count) xs → StarPosts p xs → due_all p c xs ≡ tariff p c
  star_due xs a S =
      due_sum xs (starts xs a S.readings S.at_start)
      ∙ sum_same p.count (λ s. count_at s xs * owed s) owed each ∙ tariff_owed
    where
      each : (s : ℕ) → s < p.count → count_at s xs * owed s ≡ owed s
      each s l = go (which s 0)
        where
          go : Which s 0 → count_at s xs * owed s ≡ owed s
          go (this e _) = rw (e, first_read_due p c 0) (omega arith)
          go (other n _) = rw (S.once s n l) (omega arith)

  pub posts_due : (xs : List Event) → All (λ x. x.target < p.count) xs → (0 < c → StarPosts p (earlier c xs)) → due_all p c xs ≡ tariff p c
  posts_due xs a S = go (is_early 0 c)
    where
      go : Early 0 c → due_all p c xs ≡ tariff p c
      go (early l _) = earlier_due xs a ∙ star_due (earlier c xs) (all_earlier c (λ x. x.target < p.count) xs a) (S l)
      go (late l _) =
          all_late_due p T c xs a (all_map (λ x _. omega (arith, l)) xs a)
          ∙ sym (sum_none p.count owed (λ s h. late_due p T c 0 s Read h l)) ∙ tariff_owed
