-- What every state has at first, and running an event before c keeps, every state of a machine that has run to c has.
use Prim.Native.Nat.{ℕ, ◌<◌}
use lib.Dec.{eqb}
use Rattle.line.specs.declared.Event.{Event}
use Rattle.line.specs.declared.State.{State}
use Rattle.line.specs.Station.{Plan, update, run_event}
use Rattle.line.proofs.Either.{either}
use Rattle.rules.specs.Machine.{Machine, step, Runs, halt, more}

pub states_all : (p : Plan) (P : State → Type 0) {c : ℕ} → ((st : State) (x : Event) → x.time < c → P st → P (run_event p st x).after)
    → {m k : Machine} → Runs p c m k → ((s : ℕ) → P (m.states s)) → (s : ℕ) → P (k.states s)
unfolding step update
states_all p P keeps (halt h) a = a
states_all p P keeps (more {m = m} {x = x} t least early r) a =
    states_all p P keeps r
    (λ s. either P (eqb s x.target) _ (m.states s) (keeps (m.states x.target) x early (a x.target)) (a s))
