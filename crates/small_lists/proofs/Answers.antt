-- The two answers of writing the lists.
use mathlib.Core.Path.{◌≡◌, refl, ap, ◌∙◌}
use mathlib.Core.List.{List, ◌++◌}
use Prim.Native.Nat.{ℕ, ◌≤◌, ◌<◌}
use native.Mathlib.Omega.{arith}
use borrow.Author.Tests.{lt-ltb, le-ltb}
use lib.ListN.{length, drop}
use Rattle.std.specs.Prelude.{Result, Ok, Err, ⊤}
use Rattle.refusal.specs.declared.Refusal.{Refusal}
use Rattle.refusal.specs.declared.Refusal.TheVariants.{Output}
use Rattle.refusal.specs.Tests.{judged}
use Rattle.refusal.specs.Cases.{first_of, checks_of}
use Rattle.refusal.proofs.CheckingOrder.{first_judged}
use Rattle.small_lists.specs.Answers.{lists_says}
use Rattle.small_lists.specs.Listing.{listing, bytes_of_lists}
use Rattle.small_lists.specs.Promises.{lists_cases, WritesLists}

said_number : (n : ℕ) (r : Result ⊤ Refusal) → r ≡ first_of Err (lists_cases n) (Ok tt) → lists_says r ≡ judged (checks_of (lists_cases n))
said_number n r q = ap lists_says q ∙ first_judged lists_says Err (lists_cases n) (Ok tt) (λ e. refl) refl

pub too_short : (xs : List ℕ) → length xs < 1600 → WritesLists xs (Err Output) xs
too_short xs h =
    let q : ◌≡◌ {A = Result ⊤ Refusal} (Err Output) (first_of Err (lists_cases (length xs)) (Ok tt)) = rw (lt-ltb (length xs) 1600 h) refl in
    record {
      answer = q;
      number = said_number (length xs) (Err Output) q;
      refusal = λ e r. refl;
      writes = λ r. let z : ◌≡◌ {A = ℕ} 0 1 = cc in absurd (omega arith);
    }

pub written : (xs ys : List ℕ) → 1600 ≤ length xs → ys ≡ bytes_of_lists listing ++ drop 1600 xs → WritesLists xs (Ok tt) ys
written xs ys h w =
    let q : ◌≡◌ {A = Result ⊤ Refusal} (Ok tt) (first_of Err (lists_cases (length xs)) (Ok tt)) = rw (le-ltb (length xs) 1600 h) refl in
    record {
      answer = q;
      number = said_number (length xs) (Ok tt) q;
      refusal = λ e r. let z : ◌≡◌ {A = ℕ} 0 1 = cc in absurd (omega arith);
      writes = λ r. w;
    }
