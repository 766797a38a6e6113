-- The claim about the listing: "Each list comes once and none is missing: 400 lists" (document 02, change 12).
use Rattle.std.specs.Prelude.{ℕ, ◌*◌, ◌≤◌, ◌<◌, ◌≡◌, length, get_or, take, drop}
use mathlib.Core.List.{List, [], ◌∷◌, Memᴰ}
use Rattle.std.proofs.Math.Option.{none}
use Rattle.std.proofs.Math.ListN.{get_elem?}
use Rattle.line.specs.Order.{All}
use Rattle.rules.specs.Engine.{Call}
use Rattle.small_lists.specs.Calls.{named_calls, StandsFor, ListStandsFor}
use Rattle.small_lists.specs.Listing.{listing, four_bytes, bytes_of_lists}

-- where the two first differ, the first has the lower number, which is the call named earlier
pub data FirstDiffers : List ℕ → List ℕ → Type 0 where
  here : {j k : ℕ} {l m : List ℕ} → j < k → FirstDiffers (j ∷ l) (k ∷ m)
  there : {k : ℕ} {l m : List ℕ} → FirstDiffers l m → FirstDiffers (k ∷ l) (k ∷ m)

-- "Shorter lists come first; lists of one length come in that order by their first differing call."
pub data Precedes (l m : List ℕ) : Type 0 where
  shorter : length l < length m → Precedes l m
  differs : length l ≡ length m → FirstDiffers l m → Precedes l m

-- a list of 0 to 3 calls, by their numbers
abbrev pub IsSmall : List ℕ → Type 0
IsSmall l = (length l ≤ 3) × All (λ k. k < 7) l

pub record Complete (ls : List (List ℕ)) : Type 0 where
  -- "none is missing", and nothing else is there
  pub all : (l : List ℕ) → IsSmall l → Memᴰ l ls
  pub only : (l : List ℕ) → Memᴰ l ls → IsSmall l
  -- list i comes before list j
  pub order : (i j : ℕ) → i < j → j < length ls → Precedes (get_or ls i []) (get_or ls j [])
  -- "Each list comes once"
  pub once : (i j : ℕ) → i < length ls → j < length ls → get_or ls i [] ≡ get_or ls j [] → i ≡ j
  pub count : length ls ≡ 400
  -- list i at byte 4 · i
  pub bytes : length (bytes_of_lists ls) ≡ 1600
  pub stands_at : (i : ℕ) → i < length ls → take 4 (drop (4 * i) (bytes_of_lists ls)) ≡ four_bytes (get_or ls i [])

-- as the rules' calls, whatever output a commit is lent
pub record Meaning (output : List ℕ) (ls : List (List ℕ)) : Type 0 where
  -- each number below 7 stands for a call, no two for the same, and 7 for none
  pub some_call : (k : ℕ) → k < 7 → (c : Call) × StandsFor output k c
  pub one_number : (j k : ℕ) (c : Call) → StandsFor output j c → StandsFor output k c → j ≡ k
  pub unused : get_elem? (named_calls output) 7 ≡ none
  -- "every list of 0 to 3 calls": each list of the calls named is there by its numbers
  pub every : (cs : List Call) → length cs ≤ 3 → All (λ c. Memᴰ c (named_calls output)) cs → (l : List ℕ) × Memᴰ l ls × ListStandsFor output l cs

pub record ListingClaim : Type 0 where
  pub complete : Complete listing
  -- and no other list of lists is
  pub sole : (ls : List (List ℕ)) → Complete ls → ls ≡ listing
  pub meaning : (output : List ℕ) → Meaning output listing
