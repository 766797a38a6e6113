-- What the time of the last frame heard and its yes or no are held to (document 02, change 7).
use Rattle.std.specs.Prelude.{◌≡◌, true, false, ℕ, suc, ◌≤◌, ◌<◌}
use Rattle.line.specs.declared.State.{State}

-- of one event: where heard rises, they are its time t and yes; else they stay
pub data Hears (t : ℕ) (st after : State) : Type 0 where
  hears : after.heard ≡ suc st.heard → after.last ≡ t → after.reached ≡ true → Hears t st after
  stays : after.heard ≡ st.heard → after.last ≡ st.last → after.reached ≡ st.reached → Hears t st after

-- of the state that events before c leave: no and 0 where heard is 0, else yes and a time before c
pub data LastFrame (c : ℕ) (st : State) : Type 0 where
  none_heard : st.heard ≡ 0 → st.last ≡ 0 → st.reached ≡ false → LastFrame c st
  some_heard : 1 ≤ st.heard → st.last < c → st.reached ≡ true → LastFrame c st
