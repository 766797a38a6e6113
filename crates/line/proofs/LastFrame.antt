-- Every event that runs sets the time of the last frame heard and its yes where heard rises, and leaves both where it does not; so what a state says by
-- them is right at the start and stays right.
use mathlib.Core.Path.{refl, ◌∙◌}
use Prim.Native.Nat.{ℕ, ◌<◌}
use native.Mathlib.Omega.{arith}
use lib.Dec.{leb}
use Rattle.refusal.specs.Tests.{horizon}
use Rattle.line.specs.declared.Config.{Config}
use Rattle.line.specs.declared.Event.{Event}
use Rattle.line.specs.declared.Matter.{Matter}
use Rattle.line.specs.declared.State.{State}
use Rattle.line.specs.LastFrame.{Hears, hears, stays, LastFrame, none_heard, some_heard}
use Rattle.line.specs.Station.{Plan, first_state, Outcome, send, silent, drawn_state, lose, hear, run_at, run_event}
use Rattle.line.proofs.Either.{either}
use Rattle.line.proofs.Outcomes.{MayLeave, unchanged, lost, heard, level, by_outcome}
use Rattle.line.proofs.Sends.{made}

-- ---- one event

left_hears : {t : ℕ} {st v : State} {m : Matter} → MayLeave t st m v → Hears t st (silent v).after
unfolding silent lose hear drawn_state
left_hears unchanged = stays refl refl refl
left_hears lost = stays refl refl refl
left_hears heard = hears refl refl refl
left_hears level = stays refl refl refl

-- a send leaves the three
send_hears : (t : ℕ) (st : State) (s u to : ℕ) (m : Matter) (o : Outcome) → Hears t st o.after → Hears t st (send s u to m o).after
unfolding send
send_hears t st s u to m o h = either (λ r. Hears t st r.after) (leb u horizon) (made s u to m o) o (go h) h
  where
    go : Hears t st o.after → Hears t st (made s u to m o).after
    go (hears a b d) = hears a b d
    go (stays a b d) = stays a b d

pub run_hears : (p : Plan) (st : State) (x : Event) → Hears x.time st (run_event p st x).after
unfolding run_event run_at
run_hears p st x =
    by_outcome (λ o. Hears x.time st o.after) (p.config x.target) x.target x.time st x.matter (λ v. left_hears)
    (λ u to k o a. send_hears x.time st x.target u to k o)

-- ---- all of them

pub first_says : (c : ℕ) (g : Config) → LastFrame c (first_state g)
first_says c g = none_heard refl refl refl

says_on : {c t : ℕ} {st after : State} → t < c → Hears t st after → LastFrame c st → LastFrame c after
says_on e (hears a b d) l = some_heard (omega (arith, a)) (omega (arith, b)) d
says_on e (stays a b d) (none_heard h i r) = none_heard (a ∙ h) (b ∙ i) (d ∙ r)
says_on e (stays a b d) (some_heard h i r) = some_heard (omega (arith, a)) (omega (arith, b)) (d ∙ r)

pub run_says : (c : ℕ) (p : Plan) (st : State) (x : Event) → x.time < c → LastFrame c st → LastFrame c (run_event p st x).after
run_says c p st x e l = says_on e (run_hears p st x) l
