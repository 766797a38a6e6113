-- What a call's answer says, by number: that of the first refusal that holds.
use mathlib.Core.Path.{◌≡◌, refl, ap, ◌∙◌}
use mathlib.Core.Bool.{Bool, true, false, cond}
use mathlib.Core.List.{List, [], ◌∷◌, ◌++◌}
use Prim.Native.Nat.{ℕ}
use native.Mathlib.Omega.{arith}
use Rattle.refusal.specs.declared.Refusal.{Refusal}
use Rattle.refusal.specs.Numbers.{number_of}
use Rattle.refusal.specs.Tests.{Verdict, accepted, refused, or_next, judged}
use Rattle.refusal.specs.Cases.{Case, first_of, checks_of}

-- ---- what f makes of the first that holds

choice : {A B : Type 0} (f : A → B) (b : Bool) (x y : A) → f (cond b x y) ≡ cond b (f x) (f y)
choice f true x y = refl
choice f false x y = refl

pub first_mapped : {A B : Type 0} (f : A → B) (refuse : Refusal → A) (cs : List Case) (done : A) → f (first_of refuse cs done) ≡ first_of (λ e. f (refuse e)) cs (f done)
first_mapped f refuse [] done = refl
first_mapped f refuse (c ∷ cs) done =
    choice f c.holds (refuse c.refusal) (first_of refuse cs done) ∙ ap (cond c.holds (f (refuse c.refusal))) (first_mapped f refuse cs done)

-- of two lists, the second is asked where nothing of the first holds
pub first_more : {A : Type 0} (refuse : Refusal → A) (cs ds : List Case) (done : A) → first_of refuse (cs ++ ds) done ≡ first_of refuse cs (first_of refuse ds done)
first_more refuse [] ds done = refl
first_more refuse (c ∷ cs) ds done = ap (cond c.holds (refuse c.refusal)) (first_more refuse cs ds done)

-- ---- its number

as_next : (b : Bool) (n : ℕ) (rest : Verdict) → cond b (refused n) rest ≡ or_next b n rest
unfolding or_next
as_next true n rest = refl
as_next false n rest = refl

-- no call is both accepted and refused
pub not_both : {v : Verdict} {n : ℕ} → v ≡ accepted → v ≡ refused n → ⊥
not_both a r = let z : ◌≡◌ {A = ℕ} 0 1 = cc in omega arith

-- an accepted call: the first number does not hold, and the rest accepts it
pub not_holding : (b : Bool) (n : ℕ) (v : Verdict) → or_next b n v ≡ accepted → (b ≡ false) × (v ≡ accepted)
unfolding or_next
not_holding true n v e = let z : ◌≡◌ {A = ℕ} 0 1 = cc in absurd (omega arith)
not_holding false n v e = (refl, e)

-- the number that an answer says, where f gives that of a refusal, and accepted of the other answer
pub first_judged : {A : Type 0} (f : A → Verdict) (refuse : Refusal → A) (cs : List Case) (done : A) → ((e : Refusal) → f (refuse e) ≡ refused (number_of e)) → f done ≡ accepted
    → f (first_of refuse cs done) ≡ judged (checks_of cs)
unfolding judged
first_judged f refuse [] done r d = d
first_judged f refuse (c ∷ cs) done r d =
    choice f c.holds (refuse c.refusal) (first_of refuse cs done)
    ∙ ap (λ (v : Verdict). cond c.holds v (f (first_of refuse cs done))) (r c.refusal)
    ∙ ap (cond c.holds (refused (number_of c.refusal))) (first_judged f refuse cs done r d)
    ∙ as_next c.holds (number_of c.refusal) (judged (checks_of cs))
