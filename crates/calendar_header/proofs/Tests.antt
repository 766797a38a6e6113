-- The tests of 14 and 15 say what each station's time says, and 26 comes first at an opening.
use mathlib.Core.Path.{◌≡◌, refl, sym, ap, ◌∙◌}
use mathlib.Core.Bool.{true, false, ◌||◌}
use mathlib.Core.Logic.{◌⊎◌, inl, inr}
use mathlib.Core.Option.{Option, none, some}
use mathlib.Core.List.{List, [], ◌∷◌}
use Prim.Native.Nat.{ℕ, zero, suc, ◌≤◌, ◌<◌}
use native.Mathlib.Omega.{arith}
use lib.Dec.{ltb}
use lib.ListN.{get_or}
use borrow.Author.Tests.{lt-ltb, le-ltb}
use Rattle.words.proofs.Cases.{lt_or}
use Rattle.refusal.specs.Tests.{arity_out, refused, or_next, judged}
use Rattle.calendar_header.specs.Rules.{none_registered, any_before, open_checks, LeastAt}

pub none_some : {t : ℕ} → ◌≡◌ {A = Option ℕ} none (some t) → ⊥
none_some e = let z : ◌≡◌ {A = ℕ} 0 1 = cc in omega arith

pub true_false : true ≡ false → ⊥
true_false e = let z : ◌≡◌ {A = ℕ} 0 1 = cc in omega arith

-- ---- 14

pub none_true : (ts : List (Option ℕ)) → ((x : ℕ) → get_or ts x none ≡ none) → none_registered ts ≡ true
unfolding none_registered
none_true [] h = refl
none_true (none ∷ ts) h = none_true ts (λ x. h (suc x))
none_true (some t ∷ ts) h = absurd (none_some (sym (h 0)))

pub none_false : (ts : List (Option ℕ)) (x t : ℕ) → get_or ts x none ≡ some t → none_registered ts ≡ false
unfolding none_registered
none_false [] x t e = absurd (none_some e)
none_false (none ∷ ts) zero t e = absurd (none_some e)
none_false (none ∷ ts) (suc x) t e = none_false ts x t e
none_false (some u ∷ ts) x t e = refl

none_each : (ts : List (Option ℕ)) → none_registered ts ≡ true → (x : ℕ) → get_or ts x none ≡ none
unfolding none_registered
none_each [] h x = refl
none_each (none ∷ ts) h zero = refl
none_each (none ∷ ts) h (suc x) = none_each ts h x
none_each (some t ∷ ts) h x = absurd (true_false (sym h))

-- ---- 15

pub any_true : (f : ℕ) (ts : List (Option ℕ)) (x u : ℕ) → get_or ts x none ≡ some u → u < f → any_before f ts ≡ true
unfolding any_before
any_true f [] x u e h = absurd (none_some e)
any_true f (none ∷ ts) zero u e h = absurd (none_some e)
any_true f (none ∷ ts) (suc x) u e h = any_true f ts x u e h
any_true f (some t ∷ ts) zero u e h = let z : t ≡ u = cc in rw (lt-ltb t f (rw z h))
any_true f (some t ∷ ts) (suc x) u e h = go (lt_or t f) (any_true f ts x u e h)
  where
    go : (t < f) ⊎ (f ≤ t) → any_before f ts ≡ true → ltb t f || any_before f ts ≡ true
    go (inl l) r = rw (lt-ltb t f l)
    go (inr l) r = rw (le-ltb t f l) r

pub any_false : (f : ℕ) (ts : List (Option ℕ)) → ((x u : ℕ) → get_or ts x none ≡ some u → f ≤ u) → any_before f ts ≡ false
unfolding any_before
any_false f [] h = refl
any_false f (none ∷ ts) h = any_false f ts (λ x u e. h (suc x) u e)
any_false f (some t ∷ ts) h = rw (le-ltb t f (h zero t refl)) (any_false f ts (λ x u e. h (suc x) u e))

-- the least time says whether any lies before
pub any_least : (f : ℕ) (ts : List (Option ℕ)) (s t : ℕ) → LeastAt ts s t → ltb t f ≡ any_before f ts
any_least f ts s t L = go (lt_or t f)
  where
    go : (t < f) ⊎ (f ≤ t) → ltb t f ≡ any_before f ts
    go (inl l) = lt-ltb t f l ∙ sym (any_true f ts s t L.has l)
    go (inr l) = le-ltb t f l ∙ sym (any_false f ts (λ x u e. omega (arith, L.least x u e)))

pub any_none : (f : ℕ) (ts : List (Option ℕ)) → none_registered ts ≡ true → false ≡ any_before f ts
any_none f ts h = sym (any_false f ts (λ x u e. absurd (none_some (sym (none_each ts h x) ∙ e))))

-- ---- the least time

-- it comes before every other by time and then by number
pub least_before : {ts : List (Option ℕ)} {s t : ℕ} → LeastAt ts s t → (x u : ℕ) → get_or ts x none ≡ some u → (t < u) ⊎ ((t ≡ u) × (s ≤ x))
least_before {ts} {s} {t} L x u e = go (lt_or t u)
  where
    go : (t < u) ⊎ (u ≤ t) → (t < u) ⊎ ((t ≡ u) × (s ≤ x))
    go (inl l) = inl l
    go (inr l) = let q : t ≡ u = omega (arith, L.least x u e) in inr (q, L.first x (e ∙ ap some (sym q)))

-- ---- 26

pub arity_first : (n a w bytes : ℕ) → arity_out a ≡ true → refused 26 ≡ judged (open_checks n a w bytes)
unfolding judged or_next
arity_first n a w bytes h = rw h
