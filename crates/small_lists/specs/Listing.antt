-- Every list of 0 to 3 of the seven calls, each call as its number (document 02, change 12).
use Rattle.std.specs.Prelude.{ℕ, zero, suc, List, [], ◌∷◌, ◌++◌, length, take}

-- the lists, each with the call k in front
unfoldable pub in_front : ℕ → List (List ℕ) → List (List ℕ)
in_front k [] = []
in_front k (l ∷ ls) = (k ∷ l) ∷ in_front k ls

-- each of n calls from k on in front of each list
unfoldable pub each_in_front : ℕ → ℕ → List (List ℕ) → List (List ℕ)
each_in_front k zero ls = []
each_in_front k (suc n) ls = in_front k ls ++ each_in_front (suc k) n ls

-- the lists of n calls, "in that order by their first differing call"
unfoldable pub of_length : ℕ → List (List ℕ)
of_length zero = [] ∷ []
of_length (suc n) = each_in_front 0 7 (of_length n)

-- "every list of 0 to 3 calls"; "Shorter lists come first"
unfoldable pub listing : List (List ℕ)
listing = of_length 0 ++ (of_length 1 ++ (of_length 2 ++ of_length 3))

-- "four bytes a list: its length, then its calls as 0 to 6 in the order named, with 7 for each unused place"
abbrev pub four_bytes : List ℕ → List ℕ
four_bytes l = length l ∷ take 3 (l ++ (7 ∷ 7 ∷ 7 ∷ []))

unfoldable pub bytes_of_lists : List (List ℕ) → List ℕ
bytes_of_lists [] = []
bytes_of_lists (l ∷ ls) = four_bytes l ++ bytes_of_lists ls
