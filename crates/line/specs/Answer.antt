-- What the code's answer to running an event stands for. (document 01, number 16: "a station's heard, lost or sent would pass 4294967295")
use Rattle.std.specs.Prelude.{ℕ, Bool, cond, ◌||◌, List, [], ◌∷◌, ◌++◌, None, Some, Option}
use Rattle.refusal.specs.Tests.{passes}
use Rattle.line.specs.declared.Effect.{Effect}
use Rattle.line.specs.declared.Event.{Event}
use Rattle.line.specs.declared.State.{State}
use Rattle.line.specs.Station.{Outcome}

-- 16: "a station's heard, lost or sent would pass 4294967295", where they would be those of this state
abbrev pub counts_pass : State → Bool
counts_pass st = passes st.heard || (passes st.lost || passes st.sent)

-- an outcome, or the number that refuses it
pub data Counted : Type 0 where
  within : Outcome → Counted
  refused_by : ℕ → Counted

abbrev pub over : Counted
over = refused_by 16

unfoldable pub counted : Outcome → Counted
counted o = cond (counts_pass o.after) over (within o)

abbrev pub sends_of : Option Event → List Event
sends_of None = []
sends_of (Some x) = x ∷ []

-- what the code's answer says
abbrev pub said : Option Effect → Counted
said (Some e) = within (record { after = e.state; sends = sends_of e.first ++ sends_of e.second })
said None = over
