-- What reading a line of a scenario promises.
use Rattle.std.specs.Prelude.{◌≡◌, List, ℕ, Result, Ok, Err}
use Rattle.refusal.specs.declared.Refusal.{Refusal}
use Rattle.refusal.specs.declared.Refusal.TheVariants.{Command}
use Rattle.scenario.specs.declared.Order.{Order}
use Rattle.scenario.specs.Orders.{order_line, FitsOrder}

-- every line of an order is accepted with its numbers, and every other is refused, with 8
pub record ReadsOrder (xs : List ℕ) (r : Result Order Refusal) : Type 0 where
  pub accepts : (o : Order) → FitsOrder o → xs ≡ order_line o → r ≡ Ok o
  pub accepted : (o : Order) → r ≡ Ok o → (xs ≡ order_line o) × FitsOrder o
  pub refused : (e : Refusal) → r ≡ Err e → e ≡ Command
