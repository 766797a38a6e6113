-- An engine that the bytes stand for keeps the rules' invariant, and an answered call leaves another that calls have reached.
use mathlib.Core.Path.{◌≡◌, subst}
use mathlib.Core.List.{List, [], ◌∷◌, ◌++◌}
use Prim.Native.Nat.{ℕ}
use Rattle.line.specs.declared.Event.{Event}
use Rattle.line.specs.Station.{Plan}
use Rattle.rules.specs.Engine.{Engine, Call, Answer, opened}
use Rattle.rules.specs.Calls.{Answers}
use Rattle.rules.specs.Demand.{Made, Calls, end, next, posts, retracted, logs}
use Rattle.rules.proofs.Calls.Invariant.{Inv, held_neat}
use Rattle.rules.specs.Replay.{Neat}
use Rattle.rules.proofs.Calls.Demand3.{after_calls}
use Rattle.engine_rollback.specs.BetweenSteps.{Mid}
use Rattle.engine_promises.specs.Represents.{Reached, Represents}

module _ {p : Plan} {e : Engine} {xs : List ℕ} (r : Represents p e xs) where
  abbrev pub made : List Made
  made = r.reached.calls

  pub invariant : Inv p e (posts p 0 made) (retracted made) (logs made)
  invariant = (after_calls p r.range e.setting r.reached.made).0

  pub neat : Neat p e.queue.held
  neat = held_neat p r.range e (posts p 0 made) (retracted made) (logs made) invariant

  abbrev pub waiting : List Event
  waiting = invariant.machine.waiting

  pub mid : Mid p e.setting p.count e.setting.capacity e.now xs e.queue r.cells invariant.machine.waiting invariant.machine.states
  mid = record { range = r.range; holds = r.holds; ok = invariant.ok; neat = neat }

-- a call more
then : {p : Plan} {e f g : Engine} {ms : List Made} {m : Made} → Calls p e ms f → Answers p f m.asked m.said g → Calls p e (ms ++ m ∷ []) g
then end a = next a end
then (next b c) a = next b (then c a)

pub reached_next : {p : Plan} {e f : Engine} {c : Call} {a : Answer} → Reached p e → Answers p e c a f → e.setting ≡ f.setting → Reached p f
reached_next {p} {e} {f} {c} {a} r d q = record {
  calls = r.calls ++ record { asked = c; said = a } ∷ [];
  made = subst (λ k. Calls p (opened p k) (r.calls ++ record { asked = c; said = a } ∷ []) f) q (then r.made d);
}
