-- What the private steps of obeying a line ensure.
use Rattle.std.specs.Prelude.{◌≡◌, ◌≢◌, ◌⊎◌, Bool, cond, ◌||◌, List, [], ◌∷◌, ℕ, ◌+◌, ◌≤◌, ◌<◌, ltb, length, get_or, Result, Ok, Err}
use Rattle.refusal.specs.declared.Refusal.{Refusal}
use Rattle.refusal.specs.declared.Refusal.TheVariants.{Command}
use Rattle.refusal.specs.Numbers.{number_of}
use Rattle.rules.specs.Engine.{Call, Refused}
use Rattle.engine_promises.specs.Promises.{Answered}
use Rattle.scenario.specs.declared.Order.{Order}
use Rattle.scenario.specs.Orders.{order_line, FitsOrder}
use Rattle.scenario.specs.Scenario.{days_in, calls_in, is_read}
use Rattle.scenario_posting.specs.declared.Asked.{Asked}
use Rattle.scenario_posting.specs.Promises.{AllPosted}

-- ---- lines

-- the line that begins at `from` ends at r
pub record EndsLine (text : List ℕ) (from r : ℕ) : Type 0 where
  pub after : from ≤ r
  pub within : r ≤ length text
  pub unended : (i : ℕ) → from ≤ i → i < r → get_or text i 0 ≢ 10
  pub ended : r < length text → get_or text r 0 ≡ 10

abbrev pub next_line : ℕ → ℕ → ℕ
next_line end size = cond (ltb end size) (end + 1) end

-- ---- one order

-- it is obeyed
pub record OrderObeyed (days : ℕ) (read : Bool) (o : Order) (xs : List ℕ) (d : ℕ) (asks : Bool) (ys : List ℕ) : Type 0 where
  pub days_then : d ≡ days_in days o
  pub read_then : asks ≡ (read || is_read o)
  pub posts : AllPosted xs (calls_in o) ys

-- its post is refused
pub record RefusesOrder (o : Order) (e : Refusal) (xs ys : List ℕ) : Type 0 where
  pub same : ys ≡ xs
  pub call : Call
  pub asks : calls_in o ≡ call ∷ []
  pub refused : Answered call (Refused (number_of e)) xs xs

pub record TakesOrder (days : ℕ) (read : Bool) (o : Order) (xs : List ℕ) (r : Result Asked Refusal) (ys : List ℕ) : Type 0 where
  pub on : (a : Asked) → r ≡ Ok a → OrderObeyed days read o xs a.days a.read ys
  pub refused : (e : Refusal) → r ≡ Err e → RefusesOrder o e xs ys

-- ---- a line

pub record IsOrder (o : Order) (line : List ℕ) : Type 0 where
  pub fits : FitsOrder o
  pub line_is : line ≡ order_line o

-- it is none
pub record Unread (line : List ℕ) (e : Refusal) (xs ys : List ℕ) : Type 0 where
  pub same : ys ≡ xs
  pub none : (o : Order) → FitsOrder o → line ≡ order_line o → ⊥
  pub number : e ≡ Command

pub record TakesLine (days : ℕ) (read : Bool) (line xs : List ℕ) (r : Result Asked Refusal) (ys : List ℕ) : Type 0 where
  pub on : (a : Asked) → r ≡ Ok a → (o : Order) × IsOrder o line × OrderObeyed days read o xs a.days a.read ys
  pub refused : (e : Refusal) → r ≡ Err e → Unread line e xs ys ⊎ ((o : Order) × IsOrder o line × RefusesOrder o e xs ys)
