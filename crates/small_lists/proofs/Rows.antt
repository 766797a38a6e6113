-- The bytes of a list by its place in the listing: one rule, which antt computes for all of them.
use mathlib.Core.Path.{◌≡◌, refl, sym, ap, ◌∙◌}
use mathlib.Core.Bool.{cond}
use mathlib.Core.List.{List, [], ◌∷◌, map}
use Prim.Native.Nat.{ℕ, zero, suc, ◌+◌, ◌-◌, ◌/◌, ◌%◌, ◌≤◌, ◌<◌}
use native.Mathlib.Omega.{arith}
use borrow.Author.Tests.{lt-ltb, le-ltb}
use lib.Dec.{ltb}
use lib.ListN.{get_or, get_or-map}
use Rattle.small_lists.specs.Listing.{in_front, each_in_front, of_length, listing, four_bytes}

-- the rule
abbrev row : ℕ → List ℕ
row i =
    cond (ltb i 1) (0 ∷ 7 ∷ 7 ∷ 7 ∷ [])
    (cond (ltb i 8) (1 ∷ (i - 1) ∷ 7 ∷ 7 ∷ [])
    (cond (ltb i 57) (2 ∷ (i - 8) / 7 ∷ (i - 8) % 7 ∷ 7 ∷ []) (3 ∷ (i - 57) / 49 ∷ (i - 57) / 7 % 7 ∷ (i - 57) % 7 ∷ [])))

-- n rows from i on
abbrev rows : ℕ → ℕ → List (List ℕ)
rows i zero = []
rows i (suc n) = row i ∷ rows (suc i) n

row_in : (n i k : ℕ) (d : List ℕ) → k < n → get_or (rows i n) k d ≡ row (i + k)
row_in zero i k d h = absurd (omega arith)
row_in (suc n) i zero d h = let e : i ≡ i + 0 = omega arith in ap row e
row_in (suc n) i (suc k) d h = let e : suc i + k ≡ i + suc k = omega arith in row_in n (suc i) k d (omega arith) ∙ ap row e

table : map four_bytes listing ≡ rows 0 400
unfolding in_front each_in_front of_length listing
table = refl

list_row : (i : ℕ) → i < 400 → four_bytes (get_or listing i []) ≡ row i
list_row i h =
    let e : 0 + i ≡ i = omega arith in
    sym (get_or-map four_bytes listing i []) ∙ ap (λ ls. get_or ls i (four_bytes [])) table ∙ row_in 400 0 i (four_bytes []) h ∙ ap row e

-- ---- by length

pub of_none : (i : ℕ) → i < 1 → four_bytes (get_or listing i []) ≡ 0 ∷ 7 ∷ 7 ∷ 7 ∷ []
of_none i l = rw (lt-ltb i 1 l) at (list_row i (omega arith))

pub of_one : (i : ℕ) → 1 ≤ i → i < 8 → four_bytes (get_or listing i []) ≡ 1 ∷ (i - 1) ∷ 7 ∷ 7 ∷ []
of_one i h l = rw (le-ltb i 1 h, lt-ltb i 8 l) at (list_row i (omega arith))

pub of_two : (i : ℕ) → 8 ≤ i → i < 57 → four_bytes (get_or listing i []) ≡ 2 ∷ (i - 8) / 7 ∷ (i - 8) % 7 ∷ 7 ∷ []
of_two i h l = rw (le-ltb i 1 (omega arith), le-ltb i 8 h, lt-ltb i 57 l) at (list_row i (omega arith))

pub of_three : (i : ℕ) → 57 ≤ i → i < 400 → four_bytes (get_or listing i []) ≡ 3 ∷ (i - 57) / 49 ∷ (i - 57) / 7 % 7 ∷ (i - 57) % 7 ∷ []
of_three i h l = rw (le-ltb i 1 (omega arith), le-ltb i 8 (omega arith), le-ltb i 57 h) at (list_row i l)
