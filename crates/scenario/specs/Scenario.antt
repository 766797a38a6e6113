-- A scenario: the orders that a text says, and what they ask of the engine (docs/QUOTE.md, "The scenario").
use Rattle.std.specs.Prelude.{◌≡◌, ◌⊎◌, Bool, true, false, cond, ◌||◌, List, [], ◌∷◌, ◌++◌, ℕ, zero, suc, ◌+◌, ◌-◌, length}
use Rattle.line.specs.declared.Event.{Event}
use Rattle.line.specs.Order.{All}
use Rattle.line.specs.Station.{Plan}
use Rattle.rules.specs.Engine.{Call, Post}
use Rattle.rules.specs.Demand.{post_in}
use Rattle.scenario.specs.declared.Order.{Order}
use Rattle.scenario.specs.declared.Order.TheVariants.{Days, Read, Level}
use Rattle.scenario.specs.Orders.{order_line, FitsOrder}

-- ---- the text

-- the lines of orders, each ended by byte 10
unfoldable pub order_lines : List Order → List ℕ
order_lines [] = []
order_lines (o ∷ os) = order_line o ++ (10 ∷ order_lines os)

abbrev pub AllFit : List Order → Type 0
AllFit os = All FitsOrder os

-- the orders that a scenario's text says, one a line; the end of the last line may be missing
pub record Says (text : List ℕ) (os : List Order) : Type 0 where
  pub fit : AllFit os
  pub lines : (text ≡ order_lines os) ⊎ ((text ++ 10 ∷ []) ≡ order_lines os)

-- ---- the days

abbrev pub days_in : ℕ → Order → ℕ
days_in so_far (Days days) = days
days_in so_far (Read station time) = so_far
days_in so_far (Level station time mm) = so_far

-- the last `days` line holds
unfoldable pub days_from : ℕ → List Order → ℕ
days_from so_far [] = so_far
days_from so_far (o ∷ os) = days_from (days_in so_far o) os

-- 1 where there is none
abbrev pub days_of : List Order → ℕ
days_of os = days_from 1 os

-- ---- the calls

-- what an order asks of the engine: a reading is kind 1, a level kind 3 with its value
abbrev pub calls_in : Order → List Call
calls_in (Days days) = []
calls_in (Read station time) = Post station time 1 0 ∷ []
calls_in (Level station time mm) = Post station time 3 mm ∷ []

unfoldable pub order_calls : List Order → List Call
order_calls [] = []
order_calls (o ∷ os) = calls_in o ++ order_calls os

abbrev pub is_read : Order → Bool
is_read (Days days) = false
is_read (Read station time) = true
is_read (Level station time mm) = false

unfoldable pub has_read : List Order → Bool
has_read [] = false
has_read (o ∷ os) = is_read o || has_read os

-- a reading at 0 for each of the stations 1 to k
unfoldable pub first_readings : ℕ → List Call
first_readings zero = []
first_readings (suc k) = first_readings k ++ (Post (suc k) 0 1 0 ∷ [])

-- "With no `read` every station but the collector reads from 0 on": these are posted after the others
unfoldable pub scenario_calls : Plan → List Order → List Call
scenario_calls p os = order_calls os ++ cond (has_read os) [] (first_readings (p.count - 1))

-- ---- the events

-- the events of posts that are all accepted, numbered from n on (`postIn`: rules/specs/Demand)
unfoldable pub numbered : Plan → ℕ → List Call → List Event
numbered p n [] = []
numbered p n (c ∷ cs) = post_in p n c ++ numbered p (n + length (post_in p n c)) cs

unfoldable pub scenario_events : Plan → List Order → List Event
scenario_events p os = numbered p 0 (scenario_calls p os)
