-- What every waiting event has and every send keeps, every event of the log has.
use Prim.Native.Nat.{ℕ}
use Rattle.line.specs.declared.Event.{Event}
use Rattle.line.specs.declared.State.{State}
use Rattle.line.specs.Order.{All}
use Rattle.line.specs.Station.{Plan, run_event}
use Rattle.line.proofs.All.{all_snoc}
use Rattle.line.proofs.Members.{all_append}
use Rattle.rules.specs.Machine.{Machine, step, Runs, halt, more}
use Rattle.rules.proofs.Machine.Plain.{takes_all}

pub log_all : (p : Plan) (P : Event → Type 0) → ((st : State) (x : Event) → P x → All P (run_event p st x).sends) → {c : ℕ} {m k : Machine} → Runs p c m k
    → All P m.waiting → All P m.log → All P k.log
unfolding step
log_all p P keeps (halt h) w l = l
log_all p P keeps (more {m = m} {x = x} {vs = vs} t least early r) w l =
    let a = takes_all P t w in
    log_all p P keeps r (all_append P vs _ a.1 (keeps (m.states x.target) x a.0)) (all_snoc P m.log x l a.0)
