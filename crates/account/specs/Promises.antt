-- What each call promises, on any bytes: every buffer that is long enough stands for an account.
use Rattle.std.specs.Prelude.{ℕ, ◌<◌, ◌≡◌, List, length, drop, Result, Ok, Err, ⊤}
use Rattle.refusal.specs.declared.Refusal.{Refusal}
use Rattle.refusal.specs.Tests.{account_bytes, judged}
use Rattle.refusal.specs.Cases.{first_of, checks_of}
use Rattle.account_parts.specs.Part.{entries_of}
use Rattle.account.specs.Answers.{account_says, charge_says}
use Rattle.account.specs.Account.{reading_cost, frame_cost, charge_at, charged, account_cases, part_cases, charge_cases}

-- the bytes ys are xs with an account of n stations in front: the costs a and b, and the charges f
pub record HoldsAccount (n a b : ℕ) (f : ℕ → ℕ) (xs ys : List ℕ) : Type 0 where
  pub size : length ys ≡ length xs
  pub reading : reading_cost ys ≡ a
  pub frame : frame_cost ys ≡ b
  pub charges : (s : ℕ) → s < n → charge_at ys s ≡ f s
  pub rest : drop (account_bytes n) ys ≡ drop (account_bytes n) xs

-- of the bytes xs at entry, the answer r and the bytes ys at exit

pub record OpensAccount (n a b : ℕ) (xs : List ℕ) (r : Result ⊤ Refusal) (ys : List ℕ) : Type 0 where
  pub answer : r ≡ first_of Err (account_cases n (length xs)) (Ok tt)
  pub number : account_says r ≡ judged (checks_of (account_cases n (length xs)))
  pub refusal : (e : Refusal) → r ≡ Err e → ys ≡ xs
  pub opens : r ≡ Ok tt → HoldsAccount n a b (λ s. 0) xs ys

-- "A part is taken whole or not at all."
pub record ReadsPart (n : ℕ) (part xs : List ℕ) (r : Result ⊤ Refusal) (ys : List ℕ) : Type 0 where
  pub answer : r ≡ first_of Err (part_cases n (length xs) (reading_cost xs) (frame_cost xs) (charge_at xs) part) (Ok tt)
  pub number : account_says r ≡ judged (checks_of (part_cases n (length xs) (reading_cost xs) (frame_cost xs) (charge_at xs) part))
  pub refusal : (e : Refusal) → r ≡ Err e → ys ≡ xs
  pub takes : r ≡ Ok tt → HoldsAccount n (reading_cost xs) (frame_cost xs) (charged (reading_cost xs) (frame_cost xs) (charge_at xs) (entries_of part)) xs ys

-- what the charge of station s answers
unfoldable pub charge_of : ℕ → ℕ → List ℕ → Result ℕ Refusal
charge_of n s xs = first_of Err (charge_cases n (length xs) s) (Ok (charge_at xs s))

-- of the bytes xs, the answer r for station s
pub record ReadsCharge (n s : ℕ) (xs : List ℕ) (r : Result ℕ Refusal) : Type 0 where
  pub answer : r ≡ charge_of n s xs
  pub number : charge_says r ≡ judged (checks_of (charge_cases n (length xs) s))
