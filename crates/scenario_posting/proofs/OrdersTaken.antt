-- What is taken of an order, and of a line.
use mathlib.Core.Path.{◌≡◌, refl, sym, ap, ◌∙◌}
use mathlib.Core.Logic.{inr}
use mathlib.Core.Bool.{Bool, true, false, ◌||◌}
use mathlib.Core.List.{List, [], ◌∷◌}
use Prim.Native.Nat.{ℕ}
use Rattle.std.specs.Prelude.{Result, Ok}
use Rattle.refusal.specs.declared.Refusal.{Refusal}
use Rattle.rules.specs.Engine.{Post}
use Rattle.engine_answers.specs.declared.PostAnswer.{PostAnswer}
use Rattle.engine_promises.specs.Answers.{post_said}
use Rattle.engine_promises.specs.Promises.{Answered}
use Rattle.scenario.specs.declared.Order.{Order}
use Rattle.scenario.specs.declared.Order.TheVariants.{Days, Read, Level}
use Rattle.scenario.specs.Promises.{ReadsOrder}
use Rattle.scenario.specs.Scenario.{days_in, calls_in, is_read}
use Rattle.scenario_posting.specs.declared.Asked.{Asked}
use Rattle.scenario_posting.specs.Promises.{none, more}
use Rattle.scenario_posting.specs.Steps.{TakesOrder, TakesLine}

or_none : (b : Bool) → b ≡ (b || false)
or_none true = refl
or_none false = refl

or_some : (b : Bool) → true ≡ (b || true)
or_some true = refl
or_some false = refl

-- ---- an order

abbrev pub asked : ℕ → Bool → Result Asked Refusal
asked days read = Ok (record { days = days; read = read })

module _ {days : ℕ} {read : Bool} {o : Order} {xs : List ℕ} where
  pub takes_days : {n : ℕ} → o ≡ Days n → TakesOrder days read o xs (asked n read) xs
  takes_days {n} e = rw e (record {
    on = λ a q.
        let k : n ≡ a.days = cc in
        let j : read ≡ a.read = cc in
        record { days_then = sym k; read_then = sym j ∙ or_none read; posts = none };
    refused = λ f q. cc;
  })

  -- its post is accepted, and d and b are asked for then
  accepts_post : {s t kind value d : ℕ} {b : Bool} {ys : List ℕ} {p : PostAnswer} {r : Result PostAnswer Refusal} → calls_in o ≡ Post s t kind value ∷ []
      → d ≡ days_in days o → b ≡ (read || is_read o) → r ≡ Ok p → Answered (Post s t kind value) (post_said r) xs ys → TakesOrder days read o xs (asked d b) ys
  accepts_post {d = d} {b = b} {r = r} c k j e p = record {
    on = λ a q.
        let m : d ≡ a.days = cc in
        let l : b ≡ a.read = cc in
        record { days_then = sym m ∙ k; read_then = sym l ∙ j; posts = rw c (more r none p (rw e)) };
    refused = λ f q. cc;
  }

  module _ {s t : ℕ} {ys : List ℕ} {r : Result PostAnswer Refusal} where
    pub takes_read : o ≡ Read s t → {p : PostAnswer} → r ≡ Ok p → Answered (Post s t 1 0) (post_said r) xs ys → TakesOrder days read o xs (asked days true) ys
    takes_read w e p = accepts_post (ap calls_in w) (rw w) (rw w (or_some read)) e p

    pub takes_level : {mm : ℕ} → o ≡ Level s t mm → {p : PostAnswer} → r ≡ Ok p → Answered (Post s t 3 mm) (post_said r) xs ys
        → TakesOrder days read o xs (asked days read) ys
    takes_level w e p = accepts_post (ap calls_in w) (rw w) (rw w (or_none read)) e p

-- ---- a line

module _ {line : List ℕ} {a : Result Order Refusal} (R : ReadsOrder line a) {days : ℕ} {read : Bool} {xs : List ℕ} where
  pub line_order : {o : Order} {r : Result Asked Refusal} {ys : List ℕ} → a ≡ Ok o → TakesOrder days read o xs r ys → TakesLine days read line xs r ys
  line_order {o} e s =
      let f = R.accepted o e in
      record {
        on = λ b q. (o, record { fits = f.1; line_is = f.0 }, s.on b q);
        refused = λ g q. inr (o, record { fits = f.1; line_is = f.0 }, s.refused g q);
      }
