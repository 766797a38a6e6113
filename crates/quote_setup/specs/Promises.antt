-- What setting up a quote promises, of a plan's bytes and a scenario's text.
use Rattle.std.specs.Prelude.{◌≡◌, false, List, ◌++◌, ℕ, suc, ◌≤◌, ◌<◌, Result, Ok, Err}
use Rattle.refusal.specs.declared.Refusal.{Refusal}
use Rattle.refusal.specs.Numbers.{number_of}
use Rattle.rules.specs.Engine.{Post, Refused}
use Rattle.plan_format.specs.Line.{line_of}
use Rattle.engine_promises.specs.Promises.{Opens, Answered}
use Rattle.scenario.specs.declared.Order.{Order}
use Rattle.scenario.specs.Scenario.{Says, days_of, order_calls, has_read, first_readings, scenario_calls}
use Rattle.scenario_posting.specs.Promises.{AllPosted, LineRefused}
use Rattle.scenario_posting.specs.declared.LineRefused.{LineRefused as RefusedLine}
use Rattle.quote_setup.specs.declared.SetUpError.{SetUpError}
use Rattle.quote_setup.specs.declared.SetUpError.TheVariants.{Plan, Line, Reading}

-- the opening answers o: at arity 16, with 4096 places and a leaf width in its range
pub record OpensQuote (plan xs : List ℕ) (o : Result Unit Refusal) (ys : List ℕ) : Type 0 where
  pub width : ℕ
  pub least : 1 ≤ width
  pub most : width ≤ 1048576
  pub opens : Opens plan 16 width 4096 xs o ys

-- every line of the scenario is an order, and what they ask is posted, all of it accepted: in the buffer xs that the opening left, ys then
pub record IsReady (plan text : List ℕ) (days : ℕ) (xs ys : List ℕ) : Type 0 where
  pub orders : List Order
  pub says : Says text orders
  pub for_days : days ≡ days_of orders
  pub posted : AllPosted xs (scenario_calls (line_of plan) orders) ys

-- no line asks for a reading, and of those at 0 that of station k + 1, of n, is refused
pub record RefusedReading (text : List ℕ) (n : ℕ) (e : Refusal) (xs ys : List ℕ) : Type 0 where
  pub orders : List Order
  pub says : Says text orders
  pub unasked : has_read orders ≡ false
  pub station : ℕ
  pub below : suc station < n
  pub posted : AllPosted xs (order_calls orders ++ first_readings station) ys
  pub refused : Answered (Post (suc station) 0 1 0) (Refused (number_of e)) ys ys

-- of the plan, the scenario's text, the buffer xs at entry, the answer r and the buffer ys at exit
pub record SetsUp (plan text xs : List ℕ) (r : Result ℕ SetUpError) (ys : List ℕ) : Type 0 where
  pub ready : (days : ℕ) → r ≡ Ok days → (zs : List ℕ) × OpensQuote plan xs (Ok tt) zs × IsReady plan text days zs ys
  pub unopened : (e : Refusal) → r ≡ Err (Plan e) → OpensQuote plan xs (Err e) ys
  pub line : (l : RefusedLine) → r ≡ Err (Line l) → (zs : List ℕ) × OpensQuote plan xs (Ok tt) zs × LineRefused text l.line l.refusal zs ys
  pub reading : (e : Refusal) → r ≡ Err (Reading e) → (zs : List ℕ) × OpensQuote plan xs (Ok tt) zs × RefusedReading text (line_of plan).count e zs ys
