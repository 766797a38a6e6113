-- The lists by their places.
use mathlib.Core.Path.{◌≡◌, refl, ap, subst, ◌∙◌}
use mathlib.Core.List.{List, [], ◌∷◌, ◌++◌, Memᴰ}
use Prim.Native.Nat.{ℕ, zero, suc, ◌+◌, ◌*◌, ◌≤◌, ◌<◌}
use native.Mathlib.Omega.{arith}
use lib.ListN.{length, get_or, take, drop, length-append}
use lib.Seq.{take_at, drop-append-add}
use Rattle.line.specs.Order.{All}
use Rattle.line.proofs.Order.{Tri, below, level, above, tri}
use Rattle.small_lists.specs.Listing.{four_bytes, bytes_of_lists}
use Rattle.small_lists.specs.Complete.{Precedes}
use Rattle.small_lists.proofs.OfLength.{Ascending, precedes_not}

-- list i is one of them
pub at_in : (ls : List (List ℕ)) (i : ℕ) → i < length ls → Memᴰ (get_or ls i []) ls
at_in [] i h = absurd (omega arith)
at_in (l ∷ ls) zero h = Memᴰ.head refl
at_in (l ∷ ls) (suc i) h = Memᴰ.tail (at_in ls i (omega (arith, h)))

pub in_order : (ls : List (List ℕ)) → Ascending ls → (i j : ℕ) → i < j → j < length ls → Precedes (get_or ls i []) (get_or ls j [])
in_order [] a i j h l = absurd (omega arith)
in_order (m ∷ ls) a i zero h l = absurd (omega arith)
in_order (m ∷ ls) a zero (suc j) h l = a.0 (get_or ls j []) (at_in ls j (omega (arith, l)))
in_order (m ∷ ls) a (suc i) (suc j) h l = in_order ls a.1 i j (omega (arith, h)) (omega (arith, l))

-- two places have two lists
pub apart : (ls : List (List ℕ)) → Ascending ls → (i j : ℕ) → i < length ls → j < length ls → get_or ls i [] ≡ get_or ls j [] → i ≡ j
apart ls a i j hi hj e = go (tri i j)
  where
    go : Tri i j → i ≡ j
    go (below h _) = absurd (precedes_not _ (subst (λ t. Precedes t (get_or ls j [])) e (in_order ls a i j h hj)))
    go (level h _) = h
    go (above h _) = absurd (precedes_not _ (subst (λ t. Precedes (get_or ls j []) t) e (in_order ls a j i h hi)))

-- ---- four bytes a list

-- a list of at most three calls, with 7 for each unused place
four : (l : List ℕ) → length l ≤ 3 → length (four_bytes l) ≡ 4
four [] h = refl
four (a ∷ []) h = refl
four (a ∷ b ∷ []) h = refl
four (a ∷ b ∷ c ∷ l) h = refl

-- the first i lists
pub front_length : (ls : List (List ℕ)) → All (λ l. length l ≤ 3) ls → (i : ℕ) → i ≤ length ls → length (bytes_of_lists (take i ls)) ≡ 4 * i
unfolding bytes_of_lists
front_length ls a zero h = omega arith
front_length [] a (suc i) h = absurd (omega arith)
front_length (l ∷ ls) a (suc i) h =
    length-append (four_bytes l) (bytes_of_lists (take i ls)) ∙ omega (arith, four l a.0, front_length ls a.1 i (omega (arith, h)))

pub at_place : (ls : List (List ℕ)) → All (λ l. length l ≤ 3) ls → (i : ℕ) → i < length ls → take 4 (drop (4 * i) (bytes_of_lists ls)) ≡ four_bytes (get_or ls i [])
unfolding bytes_of_lists
at_place [] a i h = absurd (omega arith)
at_place (l ∷ ls) a zero h =
    let e : 4 * 0 ≡ 0 = omega arith in
    ap (λ k. take 4 (drop k (four_bytes l ++ bytes_of_lists ls))) e ∙ take_at (four_bytes l) (bytes_of_lists ls) 4 (four l a.0)
at_place (l ∷ ls) a (suc i) h =
    let e : 4 * suc i ≡ length (four_bytes l) + 4 * i = omega (arith, four l a.0) in
    ap (λ k. take 4 (drop k (four_bytes l ++ bytes_of_lists ls))) e ∙ ap (take 4) (drop-append-add (four_bytes l) (bytes_of_lists ls) (4 * i)) ∙ at_place ls a.1 i (omega (arith, h))
