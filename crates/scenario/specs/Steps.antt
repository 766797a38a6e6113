-- What the private steps of reading a line ensure.
use Rattle.std.specs.Prelude.{◌≡◌, List, ℕ, Option, Some}
use Rattle.scenario.specs.declared.Order.{Order}
use Rattle.scenario.specs.Orders.{order_line, FitsOrder}

-- a line's order, with its numbers, or none
pub record FindsOrder (xs : List ℕ) (r : Option Order) : Type 0 where
  pub accepts : (o : Order) → FitsOrder o → xs ≡ order_line o → r ≡ Some o
  pub accepted : (o : Order) → r ≡ Some o → (xs ≡ order_line o) × FitsOrder o
