-- The lists of one length: every list is there, no other, and each comes before all after it.
use mathlib.Core.Path.{◌≡◌, refl, sym, ap, subst, ◌∙◌}
use mathlib.Core.Logic.{◌⊎◌, inl, inr}
use mathlib.Core.List.Memᴰ
use mathlib.Core.List.{List, [], ◌∷◌, ◌++◌, Memᴰ}
use Prim.Native.Nat.{ℕ, zero, suc, ◌+◌, ◌≤◌, ◌<◌}
use native.Mathlib.Omega.{arith}
use lib.ListN.{length}
use Rattle.line.specs.Order.{All}
use Rattle.line.proofs.Order.{Tri, below, level, above, tri}
use Rattle.small_lists.specs.Listing.{in_front, each_in_front, of_length}
use Rattle.small_lists.specs.Complete.{FirstDiffers, here, there, Precedes, shorter, differs}

-- ---- a call in front

front_in : (k : ℕ) {l : List ℕ} (ls : List (List ℕ)) → Memᴰ l ls → Memᴰ (k ∷ l) (in_front k ls)
unfolding in_front
front_in k {l = l} [] x' = elim x' [ ]
front_in k (m ∷ ls) (Memᴰ.head e) = Memᴰ.head (ap (λ t. k ∷ t) e)
front_in k (m ∷ ls) (Memᴰ.tail i) = Memᴰ.tail (front_in k ls i)

-- l is one of the lists with the call k in front
record Front (k : ℕ) (l : List ℕ) (ls : List (List ℕ)) : Type 0 where
  rest : List ℕ
  is : l ≡ k ∷ rest
  among : Memᴰ rest ls

in_front_lem : (k : ℕ) (l : List ℕ) (ls : List (List ℕ)) → Memᴰ l (in_front k ls) → Front k l ls
unfolding in_front
in_front_lem k l [] x' = elim x' [ ]
in_front_lem k l (m ∷ ls) (Memᴰ.head e) = record { rest = m; is = e; among = Memᴰ.head refl }
in_front_lem k l (m ∷ ls) (Memᴰ.tail i) = let f = in_front_lem k l ls i in record { rest = f.rest; is = f.is; among = Memᴰ.tail f.among }

each_in : (n k j : ℕ) {l : List ℕ} (ls : List (List ℕ)) → k ≤ j → j < k + n → Memᴰ l ls → Memᴰ (j ∷ l) (each_in_front k n ls)
unfolding each_in_front
each_in zero k j ls a b i = absurd (omega arith)
each_in (suc n) k j {l} ls a b i = go (λ h. each_in n (suc k) j ls h (omega arith) i) (tri k j)
  where
    go : (k < j → Memᴰ (j ∷ l) (each_in_front (suc k) n ls)) → Tri k j → Memᴰ (j ∷ l) (in_front k ls ++ each_in_front (suc k) n ls)
    go later (below h e) = Memᴰ.append_right (in_front k ls) (later h)
    go later (level h e) = Memᴰ.append_left (each_in_front (suc k) n ls) (subst (λ t. Memᴰ (t ∷ l) (in_front k ls)) h (front_in k ls i))
    go later (above h e) = absurd (omega arith)

-- l is one of the lists with one of n calls from k on in front
record EachFront (k n : ℕ) (l : List ℕ) (ls : List (List ℕ)) : Type 0 where
  call : ℕ
  from : k ≤ call
  to : call < k + n
  front : Front call l ls

in_each : (n k : ℕ) (l : List ℕ) (ls : List (List ℕ)) → Memᴰ l (each_in_front k n ls) → EachFront k n l ls
unfolding each_in_front
in_each zero k l ls i = elim i [ ]
in_each (suc n) k l ls i = go (in_each n (suc k) l ls) (Memᴰ.append_cases (in_front k ls) i)
  where
    go : (Memᴰ l (each_in_front (suc k) n ls) → EachFront (suc k) n l ls) → Memᴰ l (in_front k ls) ⊎ Memᴰ l (each_in_front (suc k) n ls) → EachFront k (suc n) l ls
    go later (inl i) = record { call = k; from = omega arith; to = omega arith; front = in_front_lem k l ls i }
    go later (inr i) = let f = later i in record { call = f.call; from = omega (arith, f.from); to = omega (arith, f.to); front = f.front }

-- ---- every list is there, and no other

pub has_all : (l : List ℕ) → All (λ k. k < 7) l → Memᴰ l (of_length (length l))
unfolding of_length
has_all [] a = Memᴰ.head refl
has_all (k ∷ l) a = each_in 7 0 k (of_length (length l)) (omega arith) a.0 (has_all l a.1)

pub has_only : (n : ℕ) (l : List ℕ) → Memᴰ l (of_length n) → (length l ≡ n) × All (λ k. k < 7) l
unfolding of_length
has_only zero l (Memᴰ.head e) = rw e (refl, tt)
has_only zero l (Memᴰ.tail x5) = elim x5 [ ]
has_only (suc n) l i =
    let f = in_each 7 0 l (of_length n) i in
    let r = has_only n f.front.rest f.front.among in
    rw f.front.is (ap suc r.0, (f.to, r.1))

-- ---- the order

-- each comes before all after it
abbrev pub Ascending : List (List ℕ) → Type 0
Ascending [] = Unit {0}
Ascending (l ∷ ls) = ((m : List ℕ) → Memᴰ m ls → Precedes l m) × Ascending ls

pub ascending_join : (ls ms : List (List ℕ)) → Ascending ls → Ascending ms → ((l m : List ℕ) → Memᴰ l ls → Memᴰ m ms → Precedes l m) → Ascending (ls ++ ms)
ascending_join [] ms a b f = b
ascending_join (l ∷ ls) ms a b f = (first, ascending_join ls ms a.1 b (λ u v i j. f u v (Memᴰ.tail i) j))
  where
    first : (m : List ℕ) → Memᴰ m (ls ++ ms) → Precedes l m
    first m i = go (Memᴰ.append_cases ls i)
      where
        go : Memᴰ m ls ⊎ Memᴰ m ms → Precedes l m
        go (inl i) = a.0 m i
        go (inr i) = f l m (Memᴰ.head refl) i

both_front : (k : ℕ) {l m : List ℕ} → Precedes l m → Precedes (k ∷ l) (k ∷ m)
both_front k (shorter h) = shorter (omega (arith, h))
both_front k (differs e d) = differs (ap suc e) (there d)

ascending_front : (k : ℕ) (ls : List (List ℕ)) → Ascending ls → Ascending (in_front k ls)
unfolding in_front
ascending_front k [] a = tt
ascending_front k (l ∷ ls) a = (λ m i. let f = in_front_lem k m ls i in rw f.is (both_front k (a.0 f.rest f.among)), ascending_front k ls a.1)

ascending_each : (n k c : ℕ) (ls : List (List ℕ)) → ((l : List ℕ) → Memᴰ l ls → length l ≡ c) → Ascending ls → Ascending (each_in_front k n ls)
unfolding each_in_front
ascending_each zero k c ls h a = tt
ascending_each (suc n) k c ls h a = ascending_join (in_front k ls) (each_in_front (suc k) n ls) (ascending_front k ls a) (ascending_each n (suc k) c ls h a) between
  where
    between : (l m : List ℕ) → Memᴰ l (in_front k ls) → Memᴰ m (each_in_front (suc k) n ls) → Precedes l m
    between l m i j =
        let f = in_front_lem k l ls i in
        let g = in_each n (suc k) m ls j in
        rw (f.is, g.front.is) (differs (ap suc (h f.rest f.among ∙ sym (h g.front.rest g.front.among))) (here g.from))

pub ascending_length : (n : ℕ) → Ascending (of_length n)
unfolding of_length
ascending_length zero = (λ m i. elim i [ ], tt)
ascending_length (suc n) = ascending_each 7 0 n (of_length n) (λ l i. (has_only n l i).0) (ascending_length n)

-- no list comes before itself
differ_from : {l m : List ℕ} → FirstDiffers l m → l ≡ m → ⊥
differ_from (here {j = j} {k = k} h) e = let f : j ≡ k = cc in omega (arith, h)
differ_from (there {l = l} {m = m} d) e = let f : l ≡ m = cc in differ_from d f

differs_not : (l : List ℕ) → FirstDiffers l l → ⊥
differs_not l d = differ_from d refl

pub precedes_not : (l : List ℕ) → Precedes l l → ⊥
precedes_not l (shorter h) = omega (arith, h)
precedes_not l (differs e d) = differs_not l d
