-- What writing the lists promises, on any output.
use Rattle.std.specs.Prelude.{ℕ, ◌≡◌, List, [], ◌∷◌, ◌++◌, ltb, length, drop, Result, Ok, Err, ⊤}
use Rattle.refusal.specs.declared.Refusal.{Refusal}
use Rattle.refusal.specs.declared.Refusal.TheVariants.{Output}
use Rattle.refusal.specs.Tests.{judged}
use Rattle.refusal.specs.Cases.{Case, gives, first_of, checks_of}
use Rattle.small_lists.specs.Answers.{lists_says}
use Rattle.small_lists.specs.Listing.{listing, bytes_of_lists}

-- "An output under 1600 bytes gives 18"
abbrev pub lists_cases : ℕ → List Case
lists_cases bytes = gives Output (ltb bytes 1600) ∷ []

-- of the output xs at entry, the answer r and the output ys at exit
pub record WritesLists (xs : List ℕ) (r : Result ⊤ Refusal) (ys : List ℕ) : Type 0 where
  pub answer : r ≡ first_of Err (lists_cases (length xs)) (Ok tt)
  pub number : lists_says r ≡ judged (checks_of (lists_cases (length xs)))
  pub refusal : (e : Refusal) → r ≡ Err e → ys ≡ xs
  -- "bytes behind the last list are unchanged"
  pub writes : r ≡ Ok tt → ys ≡ bytes_of_lists listing ++ drop 1600 xs
