-- No other list of lists has what is asked of the listing.
use mathlib.Core.Path.{◌≡◌, refl, sym, ap, subst, ◌∙◌}
use mathlib.Core.Logic.{◌⊎◌, inl, inr}
use mathlib.Core.List.Memᴰ
use mathlib.Core.List.{List, [], ◌∷◌, Memᴰ}
use Prim.Native.Nat.{ℕ, suc, ◌<◌}
use native.Mathlib.Omega.{arith}
use lib.ListN.{length, get_or}
use Rattle.small_lists.specs.Listing.{listing}
use Rattle.small_lists.specs.Complete.{FirstDiffers, here, there, Precedes, shorter, differs, Complete}
use Rattle.small_lists.proofs.OfLength.{Ascending, precedes_not}
use Rattle.small_lists.proofs.Complete.{complete}

-- ---- of two lists one comes first

-- at lists of their own, and equations between them
differ_at : {l m n o : List ℕ} → FirstDiffers l m → FirstDiffers n o → m ≡ n → l ≡ o → ⊥
differ_at (here {j = j} {k = k} a) (here {j = i} {k = h} b) p q = let e : k ≡ i = cc in let f : j ≡ h = cc in omega (arith, a, b)
differ_at (here {j = j} {k = k} a) (there {k = i} b) p q = let e : k ≡ i = cc in let f : j ≡ i = cc in omega (arith, a)
differ_at (there {k = i} a) (here {j = j} {k = k} b) p q = let e : i ≡ j = cc in let f : i ≡ k = cc in omega (arith, b)
differ_at (there {l = l} {m = m} a) (there {l = n} {m = o} b) p q = let e : m ≡ n = cc in let f : l ≡ o = cc in differ_at a b e f

differ_once : {l m : List ℕ} → FirstDiffers l m → FirstDiffers m l → ⊥
differ_once a b = differ_at a b refl refl

not_both : {l m : List ℕ} → Precedes l m → Precedes m l → ⊥
not_both (shorter a) (shorter b) = omega (arith, a, b)
not_both (shorter a) (differs e b) = omega (arith, a, e)
not_both (differs e a) (shorter b) = omega (arith, b, e)
not_both (differs e a) (differs f b) = differ_once a b

-- ---- in order by place is in order one after the other

place_in : (ls : List (List ℕ)) (m : List ℕ) → Memᴰ m ls → (j : ℕ) × (j < length ls) × (get_or ls j [] ≡ m)
place_in [] m x' = elim x' [ ]
place_in (l ∷ ls) m (Memᴰ.head e) = (0, omega arith, sym e)
place_in (l ∷ ls) m (Memᴰ.tail i) = let p = place_in ls m i in (suc p.0, omega (arith, p.1), p.2)

ascends : (ls : List (List ℕ)) → ((i j : ℕ) → i < j → j < length ls → Precedes (get_or ls i []) (get_or ls j [])) → Ascending ls
ascends [] o = tt
ascends (l ∷ ls) o = (
  λ m i. let p = place_in ls m i in subst (Precedes l) p.2 (o 0 (suc p.0) (omega arith) (omega (arith, p.1))),
  ascends ls (λ i j h b. o (suc i) (suc j) (omega (arith, h)) (omega (arith, b))),
)

-- ---- two in order with the same lists

abbrev Has : List (List ℕ) → List (List ℕ) → Type 0
Has ls ms = (l : List ℕ) → Memᴰ l ls → Memᴰ l ms

-- the first of each is the first of the other
first_same : (l m : List ℕ) (ls ms : List (List ℕ)) → Ascending (l ∷ ls) → Ascending (m ∷ ms) → Has (l ∷ ls) (m ∷ ms) → Has (m ∷ ms) (l ∷ ls) → l ≡ m
first_same l m ls ms a b f g = go (Memᴰ.cases_cons (f l (Memᴰ.head refl))) (Memᴰ.cases_cons (g m (Memᴰ.head refl)))
  where
    go : (l ≡ m) ⊎ Memᴰ l ms → (m ≡ l) ⊎ Memᴰ m ls → l ≡ m
    go (inl e) q = e
    go (inr i) (inl e) = sym e
    go (inr i) (inr j) = absurd (not_both (a.0 m j) (b.0 l i))

-- what comes after the first is after the first
rest_has : (l m : List ℕ) (ls ms : List (List ℕ)) → Ascending (l ∷ ls) → l ≡ m → Has (l ∷ ls) (m ∷ ms) → Has ls ms
rest_has l m ls ms a e f k i = go (Memᴰ.cases_cons (f k (Memᴰ.tail i)))
  where
    go : (k ≡ m) ⊎ Memᴰ k ms → Memᴰ k ms
    go (inl q) = absurd (precedes_not l (subst (Precedes l) (q ∙ sym e) (a.0 k i)))
    go (inr j) = j

same_lists : (ls ms : List (List ℕ)) → Ascending ls → Ascending ms → Has ls ms → Has ms ls → ls ≡ ms
same_lists [] [] a b f g = refl
same_lists [] (m ∷ ms) a b f g = absurd (Memᴰ.not-nil (g m (Memᴰ.head refl)))
same_lists (l ∷ ls) [] a b f g = absurd (Memᴰ.not-nil (f l (Memᴰ.head refl)))
same_lists (l ∷ ls) (m ∷ ms) a b f g =
    let e = first_same l m ls ms a b f g in
    ap (λ x. x ∷ ls) e ∙ ap (λ xs. m ∷ xs) (same_lists ls ms a.1 b.1 (rest_has l m ls ms a e f) (rest_has m l ms ls b (sym e) g))

pub sole : (ls : List (List ℕ)) → Complete ls → ls ≡ listing
sole ls c =
    same_lists ls listing (ascends ls c.order) (ascends listing complete.order)
    (λ l i. complete.all l (c.only l i))
    (λ l i. c.all l (complete.only l i))
