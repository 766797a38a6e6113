-- What the steps of reading a part promise. vs and ws are the costs that a call works on, 256 numbers of 64 bits.
use Rattle.std.specs.Prelude.{ℕ, ◌+◌, ◌≤◌, ◌<◌, ◌≡◌, List, [], ◌∷◌, length, get_or, drop, Result, Ok, Err, ⊤}
use Rattle.refusal.specs.declared.Refusal.{Refusal}
use Rattle.refusal.specs.declared.Refusal.TheVariants.{Charge}
use Rattle.refusal.specs.Tests.{account_bytes}
use Rattle.refusal.specs.Cases.{gives, first_of}
use Rattle.account_parts.specs.Part.{entries_of}
use Rattle.account_parts.specs.Cost.{cost_at}
use Rattle.account.specs.Account.{reading_cost, frame_cost, charge_at, charged, any_passes, part_cases}

pub record Costs (ws : List ℕ) : Type 0 where
  pub count : length ws ≡ 256
  pub fit : (s : ℕ) → get_or ws s 0 ≤ 18446744073709551615

-- with the charges of n stations they do not pass 64 bits
pub record CostsFit (n : ℕ) (ws xs : List ℕ) : Type 0 where
  pub sums : (s : ℕ) → s < n → charge_at xs s + get_or ws s 0 ≤ 18446744073709551615

-- a part's costs at n stations, and 20 where a charge would pass 64 bits
pub record CostsAdded (a b n : ℕ) (part xs : List ℕ) (r : Result ⊤ Refusal) (ws : List ℕ) : Type 0 where
  pub words : Costs ws
  pub answer : r ≡ first_of Err (gives Charge (any_passes n (charged a b (charge_at xs) (entries_of part))) ∷ []) (Ok tt)
  pub fits : r ≡ Ok tt → CostsFit n ws xs
  pub costs : r ≡ Ok tt → (s : ℕ) → s < n → get_or ws s 0 ≡ cost_at a b s (entries_of part)

-- the refusal of a part, and where there is none its costs
pub record PartJudged (n : ℕ) (part xs : List ℕ) (r : Result ⊤ Refusal) (ws : List ℕ) : Type 0 where
  pub words : Costs ws
  pub answer : r ≡ first_of Err (part_cases n (length xs) (reading_cost xs) (frame_cost xs) (charge_at xs) part) (Ok tt)
  pub fits : r ≡ Ok tt → CostsFit n ws xs
  pub costs : r ≡ Ok tt → (s : ℕ) → s < n → get_or ws s 0 ≡ cost_at (reading_cost xs) (frame_cost xs) s (entries_of part)

-- what a change of charges leaves of the bytes
pub record OnlyCharges (n : ℕ) (xs ys : List ℕ) : Type 0 where
  pub size : length ys ≡ length xs
  pub reading : reading_cost ys ≡ reading_cost xs
  pub frame : frame_cost ys ≡ frame_cost xs
  pub rest : drop (account_bytes n) ys ≡ drop (account_bytes n) xs

-- the costs vs of a part's entries added to the charges of n stations
pub record CostsStored (n : ℕ) (part vs xs ys : List ℕ) : Type 0 where
  pub only : OnlyCharges n xs ys
  pub charges : (a b s : ℕ) → s < n → get_or vs s 0 ≡ cost_at a b s (entries_of part) → charge_at ys s ≡ charge_at xs s + get_or vs s 0

-- the charges of the first k of n stations set to 0
pub record ChargesCleared (n k : ℕ) (xs ys : List ℕ) : Type 0 where
  pub only : OnlyCharges n xs ys
  pub charges : (s : ℕ) → s < k → charge_at ys s ≡ 0
