-- The account's claim: an accepted opening and any list of log parts after it, each read known by what its contract ensures (document 02, change 1).
use Rattle.std.specs.Prelude.{ℕ, ◌+◌, ◌*◌, ◌<◌, ◌≡◌, List, [], ◌∷◌, ◌++◌, length, Result, Ok, Err, ⊤}
use Rattle.words.specs.Sums.{sum_to}
use Rattle.refusal.specs.declared.Refusal.{Refusal}
use Rattle.refusal.specs.Tests.{judged}
use Rattle.refusal.specs.Cases.{first_of, checks_of}
use Rattle.account_parts.specs.Part.{entries_of}
use Rattle.account_parts.specs.Cost.{cost_at, readings, frames}
use Rattle.account.specs.Answers.{account_says}
use Rattle.account.specs.Account.{part_cases}
use Rattle.account.specs.Promises.{OpensAccount, ReadsPart, charge_of}

-- a part that is read, and the answer
pub record Handed : Type 0 where
  pub part : List ℕ
  pub said : Result ⊤ Refusal

-- "every list of log parts, refused ones among them": they take the buffer from xs to ys, "with its N and nobody else writing"
pub data PartsRead (n : ℕ) : List ℕ → List Handed → List ℕ → Type 0 where
  end : {xs : List ℕ} → PartsRead n xs [] xs
  next : {xs ys zs : List ℕ} {h : Handed} {hs : List Handed} → ReadsPart n h.part xs h.said ys → PartsRead n ys hs zs → PartsRead n xs (h ∷ hs) zs

-- "the log read so far": the parts that were taken
abbrev pub taken_of : List ℕ → Result ⊤ Refusal → List ℕ
taken_of part (Ok _) = part
taken_of part (Err e) = []

unfoldable pub log_read : List Handed → List ℕ
log_read [] = []
log_read (h ∷ hs) = taken_of h.part h.said ++ log_read hs

-- what is claimed of the parts hs, read into an account of n stations with the costs a and b in a buffer of so many bytes, which they leave as ys
pub record AccountSession (n a b bytes : ℕ) (hs : List Handed) (ys : List ℕ) : Type 0 where
  -- "The sum over all stations equals A times the readings plus B times the frames of the log read so far": the sum of what charge answers
  pub sum : (f : ℕ → ℕ) → ((s : ℕ) → s < n → charge_of n s ys ≡ Ok (f s))
      → sum_to n f ≡ a * readings (entries_of (log_read hs)) + b * frames (entries_of (log_read hs))
  -- each station's charge is what its own entries cost
  pub each : (s : ℕ) → s < n → charge_of n s ys ≡ Ok (cost_at a b s (entries_of (log_read hs)))
  -- each part is taken exactly where none of 7, 19 and 20 holds, by the log read before it
  pub judges : (before : List Handed) (h : Handed) (after : List Handed) → hs ≡ before ++ (h ∷ after)
      → h.said ≡ first_of Err (part_cases n bytes a b (λ s. cost_at a b s (entries_of (log_read before))) h.part) (Ok tt)
  -- by number
  pub numbers : (before : List Handed) (h : Handed) (after : List Handed) → hs ≡ before ++ (h ∷ after)
      → account_says h.said ≡ judged (checks_of (part_cases n bytes a b (λ s. cost_at a b s (entries_of (log_read before))) h.part))

abbrev pub AccountClaim : Type 0
AccountClaim =
    (n a b : ℕ) (before xs ys : List ℕ) (hs : List Handed) → OpensAccount n a b before (Ok tt) xs → PartsRead n xs hs ys → AccountSession n a b (length before) hs ys
