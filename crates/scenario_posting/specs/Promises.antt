-- What obeying a scenario's lines promises.
use Rattle.std.specs.Prelude.{◌≡◌, ◌≢◌, ◌⊎◌, Bool, false, List, [], ◌∷◌, ◌++◌, ℕ, ◌+◌, length, Result, Ok, Err}
use Rattle.refusal.specs.declared.Refusal.{Refusal}
use Rattle.refusal.specs.declared.Refusal.TheVariants.{Command}
use Rattle.refusal.specs.Numbers.{number_of}
use Rattle.rules.specs.Engine.{Call, Post, Refused}
use Rattle.rules.specs.Demand.{is_refused}
use Rattle.engine_answers.specs.declared.PostAnswer.{PostAnswer}
use Rattle.engine_promises.specs.Answers.{post_said}
use Rattle.engine_promises.specs.Promises.{Answered}
use Rattle.scenario.specs.declared.Order.{Order}
use Rattle.scenario.specs.Orders.{order_line, FitsOrder}
use Rattle.scenario.specs.Scenario.{order_lines, AllFit, Says, days_of, calls_in, order_calls, has_read}
use Rattle.scenario_posting.specs.declared.Asked.{Asked}
use Rattle.scenario_posting.specs.declared.LineRefused.{LineRefused as RefusedLine}

-- posts, all accepted, take the buffer from xs to ys
pub data AllPosted : List ℕ → List Call → List ℕ → Type 0 where
  none : {xs : List ℕ} → AllPosted xs [] xs
  more : {xs ys zs : List ℕ} {cs : List Call} {s t kind value : ℕ} (r : Result PostAnswer Refusal) → AllPosted xs cs ys
      → Answered (Post s t kind value) (post_said r) ys zs
      → is_refused (post_said r) ≡ false
      → AllPosted xs (cs ++ (Post s t kind value ∷ [])) zs

-- ---- a line that is refused

-- the first line of a text, without the byte 10 that ends it
abbrev pub FirstLine : List ℕ → List ℕ → Type 0
FirstLine line text = (text ≡ line) ⊎ ((rest : List ℕ) × (text ≡ line ++ (10 ∷ rest)))

-- it is none of the three forms: refusal 8
pub record NoOrder (text : List ℕ) (e : Refusal) : Type 0 where
  pub some : text ≢ []
  pub none : (o : Order) → FitsOrder o → FirstLine (order_line o) text → ⊥
  pub number : e ≡ Command

-- its post is refused by the engine that the bytes ys stand for
pub record PostRefused (text : List ℕ) (e : Refusal) (ys : List ℕ) : Type 0 where
  pub order : Order
  pub fits : FitsOrder order
  pub first : FirstLine (order_line order) text
  pub call : Call
  pub asks : calls_in order ≡ call ∷ []
  pub refused : Answered call (Refused (number_of e)) ys ys

-- ---- all lines

-- every line is an order, and its post is made: the days, and whether a reading is asked for
pub record AllTaken (text : List ℕ) (days : ℕ) (read : Bool) (xs ys : List ℕ) : Type 0 where
  pub orders : List Order
  pub says : Says text orders
  pub for_days : days ≡ days_of orders
  pub asks : read ≡ has_read orders
  pub posted : AllPosted xs (order_calls orders) ys

-- the lines before it are orders, and their posts are made; lines are counted from 1
pub record LineRefused (text : List ℕ) (line : ℕ) (e : Refusal) (xs ys : List ℕ) : Type 0 where
  pub orders : List Order
  pub fit : AllFit orders
  pub rest : List ℕ
  pub begins : text ≡ order_lines orders ++ rest
  pub counts : line ≡ length orders + 1
  pub posted : AllPosted xs (order_calls orders) ys
  pub reason : NoOrder rest e ⊎ PostRefused rest e ys

-- of the text, the engine's buffer xs at entry, the answer r and the buffer ys at exit
pub record TakesLines (text xs : List ℕ) (r : Result Asked RefusedLine) (ys : List ℕ) : Type 0 where
  pub all : (a : Asked) → r ≡ Ok a → AllTaken text a.days a.read xs ys
  pub refused : (l : RefusedLine) → r ≡ Err l → LineRefused text l.line l.refusal xs ys
