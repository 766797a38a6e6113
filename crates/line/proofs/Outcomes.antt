-- The one file that opens what running an event does: the state it leaves but for the count of sends, and at most two sends, each of them one of four.
-- The laws of running an event are read off this.
use mathlib.Core.Path.{◌≡◌, refl}
use mathlib.Core.Logic.{◌≢◌}
use mathlib.Core.Bool.{Bool, true, false, cond}
use Prim.Native.Nat.{ℕ, suc, ◌+◌, ◌<◌}
use borrow.Author.Tests.{ltb-true, lt-leb, ne_eqb}
use lib.Dec.{ltb, leb, eqb}
use Rattle.generator.specs.Draw.{next_draw}
use Rattle.line.specs.declared.Config.{Config}
use Rattle.line.specs.declared.Matter.{Matter}
use Rattle.line.specs.declared.Matter.TheVariants.{Read, Frame, Level}
use Rattle.line.specs.declared.State.{State}
use Rattle.line.specs.Station.{Outcome, send, silent, period, run_read, drawn_state, lose, hear, repeat, pass, run_frame, set_level, run_level, run_matter}
use Rattle.line.proofs.Either.{either}

-- the states that running the matter m at time t may leave
pub data MayLeave (t : ℕ) (st : State) : Matter → State → Type 0 where
  unchanged : MayLeave t st Read st
  lost : {origin repeats : ℕ} → MayLeave t st (Frame origin repeats) (lose (drawn_state st))
  heard : {origin repeats : ℕ} → MayLeave t st (Frame origin repeats) (hear t (drawn_state st))
  level : {mm : ℕ} → MayLeave t st (Level mm) (set_level mm st)

-- what station s may send where it runs the matter m at time t: when, to which station, and with which matter
pub data MaySend (c : Config) (s t : ℕ) (st : State) : Matter → ℕ → ℕ → Matter → Type 0 where
  next_reading : MaySend c s t st Read (t + period c st) s Read
  own_frame : MaySend c s t st Read (t + c.hop) c.parent (Frame s 0)
  repeated : {origin repeats : ℕ} → repeats < 3 → MaySend c s t st (Frame origin repeats) (t + c.hop) s (Frame origin (suc repeats))
  passed_on : {origin repeats : ℕ} → MaySend c s t st (Frame origin repeats) (t + c.hop) c.parent (Frame origin 0)

module _ (c : Config) (s t : ℕ) (st : State) (m : Matter) where
  -- the outcomes that running it may have
  pub data Possible : Outcome → Type 0 where
    none : {v : State} → MayLeave t st m v → Possible (silent v)
    one : {v : State} {u to : ℕ} {k : Matter} → MayLeave t st m v → MaySend c s t st m u to k → Possible (send s u to k (silent v))
    two : {v : State} {u to u' to' : ℕ} {k k' : Matter} → MayLeave t st m v → MaySend c s t st m u to k → MaySend c s t st m u' to' k'
        → Possible (send s u' to' k' (send s u to k (silent v)))

pub possible : (c : Config) (s t : ℕ) (st : State) (m : Matter) → Possible c s t st m (run_matter c s t m st)
unfolding run_matter run_read run_frame run_level repeat pass
possible c s t st Read = either (Possible c s t st Read) (eqb s 0) _ _ (none unchanged) (two unchanged next_reading own_frame)
possible c s t st (Frame origin repeats) =
    either (Possible c s t st (Frame origin repeats)) (leb (next_draw st.draw) c.noise) _ _ (again (ltb repeats 3) refl)
    (either (Possible c s t st (Frame origin repeats)) (eqb s 0) _ _ (none heard) (one heard passed_on))
  where
    again : (b : Bool) → ltb repeats 3 ≡ b
        → Possible c s t st (Frame origin repeats) (cond b (send s (t + c.hop) s (Frame origin (suc repeats)) (silent (lose (drawn_state st)))) (silent (lose (drawn_state st))))
    again true e = one lost (repeated (ltb-true repeats 3 e))
    again false e = none lost
possible c s t st (Level mm) = none level

-- what holds of every state that may be left, and is kept by every send that may be made, holds of the outcome
pub by_outcome : (P : Outcome → Type 0) (c : Config) (s t : ℕ) (st : State) (m : Matter)
    → ((v : State) → MayLeave t st m v → P (silent v))
    → ((u to : ℕ) (k : Matter) (o : Outcome) → MaySend c s t st m u to k → P o → P (send s u to k o))
    → P (run_matter c s t m st)
by_outcome P c s t st m f g = go (possible c s t st m)
  where
    go : {o : Outcome} → Possible c s t st m o → P o
    go (none {v} l) = f v l
    go (one {v} {u} {to} {k} l a) = g u to k _ a (f v l)
    go (two {v} {u} {to} {u'} {to'} {k} {k'} l a b) = g u' to' k' _ b (g u to k _ a (f v l))

-- ---- which one it is

-- a reading, at station 0 and elsewhere
pub first_reads : (c : Config) (t : ℕ) (st : State) → run_matter c 0 t Read st ≡ silent st
unfolding run_matter run_read
first_reads c t st = refl

pub other_reads : (c : Config) (s t : ℕ) (st : State) → s ≢ 0
    → run_matter c s t Read st ≡ send s (t + c.hop) c.parent (Frame s 0) (send s (t + period c st) s Read (silent st))
unfolding run_matter run_read
other_reads c s t st h = rw (ne_eqb s 0 h)

-- a frame at station 0 that noise does not lose
pub first_hears : (c : Config) (t origin repeats : ℕ) (st : State) → c.noise < next_draw st.draw
    → run_matter c 0 t (Frame origin repeats) st ≡ silent (hear t (drawn_state st))
unfolding run_matter run_frame pass
first_hears c t origin repeats st h = rw (lt-leb (next_draw st.draw) c.noise h)
