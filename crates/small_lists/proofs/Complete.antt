-- The listing has every list of up to three calls, once, in order.
use mathlib.Core.Path.{◌≡◌, refl, sym, ap, subst, ◌∙◌}
use mathlib.Core.Logic.{◌⊎◌, inl, inr}
use mathlib.Core.List.Memᴰ
use mathlib.Core.List.{List, ◌++◌, Memᴰ}
use Prim.Native.Nat.{ℕ, zero, suc, ◌+◌, ◌*◌, ◌≤◌, ◌<◌}
use native.Mathlib.Omega.{arith}
use lib.ListN.{length, take}
use lib.Seq.{take_all}
use Rattle.line.specs.Order.{All}
use Rattle.line.proofs.Members.{in_all}
use Rattle.line.proofs.Order.{Tri, below, level, above, tri}
use Rattle.small_lists.specs.Listing.{in_front, each_in_front, of_length, listing, bytes_of_lists}
use Rattle.small_lists.specs.Complete.{shorter, Complete}
use Rattle.small_lists.proofs.OfLength.{has_all, has_only, Ascending, ascending_join, ascending_length}
use Rattle.small_lists.proofs.Places.{in_order, apart, front_length, at_place}

-- the lists of n calls, of n + 1, and so on up to n + k
abbrev up_to : ℕ → ℕ → List (List ℕ)
up_to n zero = of_length n
up_to n (suc k) = of_length n ++ up_to (suc n) k

in_up_to : (k n m : ℕ) (l : List ℕ) → n ≤ m → m ≤ n + k → Memᴰ l (of_length m) → Memᴰ l (up_to n k)
in_up_to zero n m l a b i = let e : m ≡ n = omega arith in subst (λ x. Memᴰ l (of_length x)) e i
in_up_to (suc k) n m l a b i = go (λ h. in_up_to k (suc n) m l h (omega arith) i) (tri n m)
  where
    go : (n < m → Memᴰ l (up_to (suc n) k)) → Tri n m → Memᴰ l (of_length n ++ up_to (suc n) k)
    go longer (below h e) = Memᴰ.append_right (of_length n) (longer h)
    go longer (level h e) = Memᴰ.append_left (up_to (suc n) k) (subst (λ x. Memᴰ l (of_length x)) (sym h) i)
    go longer (above h e) = absurd (omega arith)

record Between (n k : ℕ) (l : List ℕ) : Type 0 where
  least : n ≤ length l
  most : length l ≤ n + k
  calls : All (λ c. c < 7) l

only_up_to : (k n : ℕ) (l : List ℕ) → Memᴰ l (up_to n k) → Between n k l
only_up_to zero n l i = let o = has_only n l i in record { least = omega (arith, o.0); most = omega (arith, o.0); calls = o.1 }
only_up_to (suc k) n l i = go (only_up_to k (suc n) l) (Memᴰ.append_cases (of_length n) i)
  where
    go : (Memᴰ l (up_to (suc n) k) → Between (suc n) k l) → Memᴰ l (of_length n) ⊎ Memᴰ l (up_to (suc n) k) → Between n (suc k) l
    go longer (inl j) = let o = has_only n l j in record { least = omega (arith, o.0); most = omega (arith, o.0); calls = o.1 }
    go longer (inr j) = let w = longer j in record { least = omega (arith, w.least); most = omega (arith, w.most); calls = w.calls }

ascending_up_to : (k n : ℕ) → Ascending (up_to n k)
ascending_up_to zero n = ascending_length n
ascending_up_to (suc k) n =
    ascending_join (of_length n) (up_to (suc n) k) (ascending_length n) (ascending_up_to k (suc n))
    (λ l m i j. shorter (omega (arith, (has_only n l i).0, (only_up_to k (suc n) m j).least)))

-- ---- the listing

few : All (λ l. length l ≤ 3) listing
unfolding listing
few = in_all (λ l. length l ≤ 3) (up_to 0 3) (λ l i. (only_up_to 3 0 l i).most)

pub listing_count : length listing ≡ 400
unfolding listing of_length each_in_front in_front
listing_count = refl

-- the bytes of the first i lists
pub written_length : (i : ℕ) → i ≤ 400 → length (bytes_of_lists (take i listing)) ≡ 4 * i
written_length i h = front_length listing few i (omega (arith, listing_count))

pub written_all : take 400 listing ≡ listing
written_all = take_all 400 listing (omega (arith, listing_count))

pub complete : Complete listing
unfolding listing
complete = record {
  all = λ l s. in_up_to 3 0 (length l) l (omega arith) s.0 (has_all l s.1);
  only = λ l i. let w = only_up_to 3 0 l i in (w.most, w.calls);
  order = in_order (up_to 0 3) (ascending_up_to 3 0);
  once = apart (up_to 0 3) (ascending_up_to 3 0);
  count = listing_count;
  bytes = ap (λ ls. length (bytes_of_lists ls)) (sym written_all) ∙ written_length 400 (omega arith);
  stands_at = at_place listing few;
}
