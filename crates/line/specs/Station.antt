-- Stations, their state, and what running an event does (document 01, "Plan of a line" and "Events and stations"; document 02, changes 2 and 7). A
-- station's numbers and its state are the declared Config and State of src/.
use Rattle.std.specs.Prelude.{ℕ, zero, suc, ◌+◌, ◌≤◌, ◌<◌, ◌≡◌, Bool, true, false, cond, not, ◌||◌, List, [], ◌∷◌, ◌++◌, ltb, leb, eqb}
use Rattle.generator.specs.Draw.{next_draw}
use Rattle.refusal.specs.Tests.{horizon}
use Rattle.line.specs.declared.Config.{Config}
use Rattle.line.specs.declared.Event.{Event}
use Rattle.line.specs.declared.Matter.{Matter}
use Rattle.line.specs.declared.Matter.TheVariants.{Read, Frame, Level}
use Rattle.line.specs.declared.State.{State}

-- ---- the plan

-- the stations of a line are those below `count`, N of the paper
pub record Plan : Type 0 where
  pub count : ℕ
  pub config : ℕ → Config

-- "A parent is below its station; station 0 has parent 0."
unfoldable pub parent_out : ℕ → ℕ → Bool
parent_out zero parent = not (eqb parent 0)
parent_out (suc s) parent = leb (suc s) parent

-- 4: "A record has a number out of range". "Periods and hop delay are 1 or more. Noise limit is 0 to 2147483646, seed 1 to 2147483646."
unfoldable pub number_out : ℕ → Config → Bool
number_out s c =
    parent_out s c.parent || (ltb c.calm 1 || (ltb c.spring 1 || (ltb c.hop 1 || (ltb 2147483646 c.noise || (ltb c.seed 1 || ltb 2147483646 c.seed)))))

-- what an accepted plan is: 1 to 256 stations, each with its numbers in range
pub record InRange (p : Plan) : Type 0 where
  pub some : 1 ≤ p.count
  pub most : p.count ≤ 256
  pub each : (s : ℕ) → s < p.count → number_out s (p.config s) ≡ false

-- ---- the states

abbrev pub States : Type 0
States = ℕ → State

-- the states with station s's replaced
unfoldable pub update : States → ℕ → State → States
update f s v = λ t. cond (eqb t s) v (f t)

-- "draw (starts as the seed), level, heard, lost, sent (all start at 0)". The last frame's two: "Both start at 0 and no." (document 02, change 7)
abbrev pub first_state : Config → State
first_state c = record { draw = c.seed; level = 0; heard = 0; lost = 0; sent = 0; last = 0; reached = false }

unfoldable pub initial : Plan → States
initial p = λ s. first_state (p.config s)

-- ---- running an event

-- the station's state after it, and its sends in order
pub record Outcome : Type 0 where
  pub after : State
  pub sends : List Event

unfoldable pub silent : State → Outcome
silent st = record { after = st; sends = [] }

-- the state with one send more
abbrev pub count_send : State → State
count_send st = record { draw = st.draw; level = st.level; heard = st.heard; lost = st.lost; sent = suc st.sent; last = st.last; reached = st.reached }

-- "Each send takes the number sent, then sent rises by 1. A send after H isn't made and takes no number."
-- One more send of station s, at time t to the station `to`
unfoldable pub send : ℕ → ℕ → ℕ → Matter → Outcome → Outcome
send s t to m o =
    cond (leb t horizon)
    (record {
      after = count_send o.after;
      sends = o.sends ++ (record { time = t; target = to; source = s; number = o.after.sent; matter = m } ∷ []);
    })
    o

-- "The period is the spring one if level is at or above the threshold, else the calm one."
unfoldable pub period : Config → State → ℕ
period c st = cond (leb c.threshold st.level) c.spring c.calm

-- "Reading, station 0: nothing. Elsewhere: first a reading to itself at t + period, value 0, then a frame to its parent at t + hop delay, value
-- its own number."
unfoldable pub run_read : Config → ℕ → ℕ → State → Outcome
run_read c s t st = cond (eqb s 0) (silent st) (send s (t + c.hop) c.parent (Frame s 0) (send s (t + period c st) s Read (silent st)))

-- the state with a new draw; with one frame more lost
unfoldable pub drawn_state : State → State
drawn_state st = record { draw = next_draw st.draw; level = st.level; heard = st.heard; lost = st.lost; sent = st.sent; last = st.last; reached = st.reached }

unfoldable pub lose : State → State
lose st = record { draw = st.draw; level = st.level; heard = st.heard; lost = suc st.lost; sent = st.sent; last = st.last; reached = st.reached }

-- with one frame more heard, at time t: "the time of the last frame heard, and a yes or no for whether there has been one" (document 02, change 7)
unfoldable pub hear : ℕ → State → State
hear t st = record { draw = st.draw; level = st.level; heard = suc st.heard; lost = st.lost; sent = st.sent; last = t; reached = true }

-- ".. and the same frame goes to the station itself at t + hop delay", with one repeat more. "A loss at 3 raises lost and sends nothing." (document 02,
-- change 2)
unfoldable pub repeat : Config → ℕ → ℕ → ℕ → ℕ → Outcome → Outcome
repeat c s t origin repeats o = cond (ltb repeats 3) (send s (t + c.hop) s (Frame origin (suc repeats)) o) o

-- ".. and a station other than 0 passes the frame to its parent at t + hop delay". "A frame passed to the parent starts again at 0 repeats." (document
-- 02, change 2)
unfoldable pub pass : Config → ℕ → ℕ → ℕ → Outcome → Outcome
pass c s t origin o = cond (eqb s 0) o (send s (t + c.hop) c.parent (Frame origin 0) o)

-- "Frame: draw. If the new draw is at most the noise limit, lost rises by 1 and .. Otherwise heard rises by 1, and .."
unfoldable pub run_frame : Config → ℕ → ℕ → ℕ → ℕ → State → Outcome
run_frame c s t origin repeats st =
    cond (leb (next_draw st.draw) c.noise)
    (repeat c s t origin repeats (silent (lose (drawn_state st))))
    (pass c s t origin (silent (hear t (drawn_state st))))

-- "Level: level becomes the value."
abbrev pub set_level : ℕ → State → State
set_level mm st = record { draw = st.draw; level = mm; heard = st.heard; lost = st.lost; sent = st.sent; last = st.last; reached = st.reached }

unfoldable pub run_level : ℕ → State → Outcome
run_level mm st = silent (set_level mm st)

unfoldable pub run_matter : Config → ℕ → ℕ → Matter → State → Outcome
run_matter c s t Read st = run_read c s t st
run_matter c s t (Frame origin repeats) st = run_frame c s t origin repeats st
run_matter c s t (Level mm) st = run_level mm st

-- running the event x at its target, whose numbers are c and whose state is st
unfoldable pub run_at : Config → State → Event → Outcome
run_at c st x = run_matter c x.target x.time x.matter st

-- the same in a plan
unfoldable pub run_event : Plan → State → Event → Outcome
run_event p st x = run_at (p.config x.target) st x
