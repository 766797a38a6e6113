-- Every event of the log that the calls commit is one that number 19 accepts in a part of a log (document 02, change 1): a post is one, and an event that is
-- one sends no other.
use mathlib.Core.Path.{◌≡◌}
use mathlib.Core.Logic.{◌⊎◌, inl, inr}
use mathlib.Core.List.{List}
use Prim.Native.Nat.{◌≤◌, ◌<◌}
use Rattle.refusal.specs.Tests.{horizon}
use Rattle.line.specs.declared.Event.{Event}
use Rattle.line.specs.declared.State.{State}
use Rattle.line.specs.Event.{posted}
use Rattle.line.specs.Matter.{Suits}
use Rattle.line.specs.Order.{All}
use Rattle.line.specs.Station.{Plan, InRange, run_event}
use Rattle.line.proofs.All.{all_map, all_both}
use Rattle.line.proofs.Sends.{event_good}
use Rattle.line.proofs.Suits.{sends_suit}
use Rattle.rules.specs.Machine.{Machine, start}
use Rattle.rules.specs.Engine.{Setting, Engine, opened}
use Rattle.rules.specs.Demand.{Made, Calls, posts, retracted, logs, fed, Comes}
use Rattle.rules.proofs.Machine.Log.{log_all}
use Rattle.rules.proofs.Calls.Invariant.{fed_posts}
use Rattle.rules.proofs.Calls.Demand3.{after_calls}

pub record LogEvent (p : Plan) (x : Event) : Type 0 where
  pub timely : x.time ≤ horizon
  pub inside : x.target < p.count
  pub sender : (x.source < p.count) ⊎ (x.source ≡ posted)
  pub suits : Suits p.count x.matter

module _ (p : Plan) (S : InRange p) where
  sends_are : (st : State) (x : Event) → LogEvent p x → All (LogEvent p) (run_event p st x).sends
  sends_are st x h =
      all_both (λ y w e. record { timely = w.timely; inside = w.inside; sender = inl (rw w.source_is h.inside); suits = e })
      (run_event p st x).sends (event_good p S st x h.inside).each (sends_suit p S st x h.inside h.suits)

  pub log_events : (setting : Setting) {ms : List Made} {f : Engine} → Calls p (opened p setting) ms f → (k : Machine) → Comes p ms k
      → All (LogEvent p) k.log
  unfolding fed start
  log_events setting {ms} {f} c k r =
      log_all p (LogEvent p) sends_are r
      (all_map (λ x i. record { timely = i.timely; inside = i.inside; sender = inr i.outer; suits = i.suits }) (fed p ms)
      (fed_posts p S f (posts p 0 ms) (retracted ms) (logs ms) (after_calls p S setting c).0))
      tt
