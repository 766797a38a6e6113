-- What the numbers stand for, and that every list of the calls named is there by its numbers.
use mathlib.Core.Path.{◌≡◌, refl, sym, ap, ◌∙◌}
use mathlib.Core.List.{List, [], ◌∷◌, map, Memᴰ}
use mathlib.Core.Option.{Option, none, some}
use Prim.Native.Nat.{ℕ, zero, suc, ◌+◌, ◌<◌}
use native.Mathlib.Omega.{arith}
use lib.ListN.{length, get_or, get_elem?, drop}
use Rattle.line.specs.Order.{All}
use Rattle.rules.specs.Engine.{Call, Post, Retract, RunStation, RunLowest, Commit, Record}
use Rattle.small_lists.specs.Calls.{named_calls, StandsFor, ListStandsFor}
use Rattle.small_lists.specs.Complete.{ListingClaim}
use Rattle.small_lists.proofs.Complete.{complete}
use Rattle.small_lists.proofs.Sole.{sole}

-- ---- places in a list

-- what stands at a place
stands : {A : Type 0} (xs : List A) (k : ℕ) → k < length xs → (x : A) × (get_elem? xs k ≡ some x)
stands [] k h = absurd (omega arith)
stands (x ∷ xs) zero h = (x, refl)
stands (x ∷ xs) (suc k) h = stands xs k (omega (arith, h))

-- where a member stands
place_of : {A : Type 0} {x : A} (xs : List A) → Memᴰ x xs → (k : ℕ) × (k < length xs) × (get_elem? xs k ≡ some x)
place_of {A = A} [] x'' = elim x'' [ ]
place_of (y ∷ xs) (Memᴰ.head e) = (0, omega arith, ap some (sym e))
place_of (y ∷ xs) (Memᴰ.tail i) = let p = place_of xs i in (suc p.0, omega (arith, p.1), p.2)

-- n numbers from i on
abbrev up_from : ℕ → ℕ → List ℕ
up_from i zero = []
up_from i (suc n) = i ∷ up_from (suc i) n

abbrev if_any : {A : Type 0} → (A → ℕ) → Option A → ℕ
if_any f none = 0
if_any f (some x) = f x

-- where f numbers the elements from i on, it gives the place of each
number_at : {A : Type 0} (f : A → ℕ) (xs : List A) (i : ℕ) → map f xs ≡ up_from i (length xs) → (k : ℕ) (x : A) → get_elem? xs k ≡ some x → f x ≡ i + k
number_at f [] i m k x e = let z : ◌≡◌ {A = ℕ} 0 1 = cc in absurd (omega arith)
number_at f (y ∷ xs) i m zero x e = let h : f y ≡ i = ap (λ l. get_or l 0 0) m in omega (arith, h, ap (λ o. if_any f o) e)
number_at f (y ∷ xs) i m (suc k) x e = number_at f xs (suc i) (ap (drop 1) m) k x e ∙ omega arith

-- ---- the seven calls

-- the number of one of them
abbrev number_in : Call → ℕ
number_in RunLowest = 0
number_in (RunStation zero) = 1
number_in (RunStation (suc s)) = 2
number_in (Post s zero kind value) = 3
number_in (Post s (suc t) kind value) = 4
number_in (Retract n) = 5
number_in (Commit t output) = 6
number_in (Record s) = 7

number_of : (output : List ℕ) (k : ℕ) (c : Call) → StandsFor output k c → number_in c ≡ k
number_of output k c e = number_at number_in (named_calls output) 0 refl k c e ∙ omega arith

-- ---- lists of them

-- the numbers of a list of calls
record NumbersOf (output : List ℕ) (cs : List Call) : Type 0 where
  numbers : List ℕ
  size : length numbers ≡ length cs
  below_7 : All (λ k. k < 7) numbers
  stand : ListStandsFor output numbers cs

numbers_of : (output : List ℕ) (cs : List Call) → All (λ c. Memᴰ c (named_calls output)) cs → NumbersOf output cs
numbers_of output [] a = record { numbers = []; size = refl; below_7 = tt; stand = refl }
numbers_of output (c ∷ cs) a =
    let p = place_of (named_calls output) a.0 in
    let r = numbers_of output cs a.1 in
    record {
      numbers = p.0 ∷ r.numbers;
      size = ap suc r.size;
      below_7 = (p.1, r.below_7);
      stand = ap (λ x. x ∷ map (get_elem? (named_calls output)) r.numbers) p.2 ∙ ap (λ xs. some c ∷ xs) r.stand;
    }

pub listing_claim : ListingClaim
listing_claim = record {
  complete = complete;
  sole = sole;
  meaning = λ output. record {
    some_call = stands (named_calls output);
    one_number = λ j k c d e. sym (number_of output j c d) ∙ number_of output k c e;
    unused = refl;
    every = λ cs h a. let r = numbers_of output cs a in (r.numbers, complete.all r.numbers (omega (arith, r.size, h), r.below_7), r.stand);
  };
}
