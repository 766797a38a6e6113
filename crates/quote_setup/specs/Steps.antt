-- What the private steps of setting up ensure.
use Rattle.std.specs.Prelude.{◌≡◌, Bool, false, cond, List, [], ◌++◌, ℕ, suc, ◌-◌, ◌<◌, Result, Ok, Err}
use Rattle.refusal.specs.declared.Refusal.{Refusal}
use Rattle.refusal.specs.Numbers.{number_of}
use Rattle.rules.specs.Engine.{Post, Refused}
use Rattle.engine_promises.specs.Promises.{Answered}
use Rattle.scenario.specs.declared.Order.{Order}
use Rattle.scenario.specs.Scenario.{Says, days_of, order_calls, has_read, first_readings}
use Rattle.scenario_posting.specs.Promises.{AllPosted, LineRefused}
use Rattle.scenario_posting.specs.declared.LineRefused.{LineRefused as RefusedLine}
use Rattle.quote_setup.specs.declared.SetUpError.{SetUpError}
use Rattle.quote_setup.specs.declared.SetUpError.TheVariants as A
use Rattle.quote_setup.specs.Promises.{RefusedReading}

-- ---- the readings at 0

-- of n stations, those of 1 to k are posted, and the next one's is refused
pub record ReadingRefused (n : ℕ) (e : Refusal) (xs ys : List ℕ) : Type 0 where
  pub station : ℕ
  pub below : suc station < n
  pub posted : AllPosted xs (first_readings station) ys
  pub refused : Answered (Post (suc station) 0 1 0) (Refused (number_of e)) ys ys

pub record ReadsEach (n : ℕ) (xs : List ℕ) (r : Result Unit Refusal) (ys : List ℕ) : Type 0 where
  pub all : r ≡ Ok tt → AllPosted xs (first_readings (n - 1)) ys
  pub refused : (e : Refusal) → r ≡ Err e → ReadingRefused n e xs ys

pub record ReadsUnasked (n : ℕ) (read : Bool) (xs : List ℕ) (r : Result Unit Refusal) (ys : List ℕ) : Type 0 where
  pub all : r ≡ Ok tt → AllPosted xs (cond read [] (first_readings (n - 1))) ys
  pub refused : (e : Refusal) → r ≡ Err e → (read ≡ false) × ReadingRefused n e xs ys

-- ---- all posts

-- of a line of n stations
pub record AllAsked (text : List ℕ) (n days : ℕ) (xs ys : List ℕ) : Type 0 where
  pub orders : List Order
  pub says : Says text orders
  pub for_days : days ≡ days_of orders
  pub posted : AllPosted xs (order_calls orders ++ cond (has_read orders) [] (first_readings (n - 1))) ys

pub record PostsAll (text : List ℕ) (n : ℕ) (xs : List ℕ) (r : Result ℕ SetUpError) (ys : List ℕ) : Type 0 where
  pub opens : (e : Refusal) → r ≡ Err (A.Plan e) → ⊥
  pub ready : (days : ℕ) → r ≡ Ok days → AllAsked text n days xs ys
  pub line : (l : RefusedLine) → r ≡ Err (A.Line l) → LineRefused text l.line l.refusal xs ys
  pub reading : (e : Refusal) → r ≡ Err (A.Reading e) → RefusedReading text n e xs ys
