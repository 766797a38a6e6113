-- A list of calls with the answers that it should get: where the functions compute these answers, the rules give them.
use mathlib.Core.Path.{◌≡◌, refl, subst}
use mathlib.Core.Bool.{Bool, true, false, not, ◌&&◌}
use mathlib.Core.List.{List, [], ◌∷◌}
use Prim.Native.Nat.{ℕ, zero, suc, ◌+◌, ◌<◌}
use native.Mathlib.Nat.{le_of_suc-le-suc}
use native.Mathlib.Omega.{arith}
use lib.Dec.{leb, T, leb→le}
use lib.ListN.{length}
use Rattle.line.specs.declared.Config.{Config}
use Rattle.line.specs.declared.Event.{Event}
use Rattle.line.specs.declared.Matter.{Matter}
use Rattle.line.specs.Station.{Plan, InRange, number_out}
use Rattle.rules.specs.Engine.{Setting, Engine, opened, Call, Answer}
use Rattle.rules.specs.Demand.{Made, Calls}
use Rattle.rules.proofs.Calls.Compute.{answers_to, left_by}
use Rattle.rules.proofs.Calls.Answered.{opened_answers}

-- ---- plans

abbrev unused : Config
unused = record { parent = 0; calm = 1; spring = 1; threshold = 0; hop = 1; noise = 0; seed = 1 }

unfoldable pub nth : List Config → ℕ → Config
nth [] n = unused
nth (c ∷ cs) zero = c
nth (c ∷ cs) (suc n) = nth cs n

abbrev pub plan_of : List Config → Plan
plan_of cs = record { count = length cs; config = nth cs }

-- the numbers of the stations from s on are in range
unfoldable pub all_in : ℕ → List Config → Bool
all_in s [] = true
all_in s (c ∷ cs) = not (number_out s c) && all_in (suc s) cs

both : (a b : Bool) → T (not a && b) → (a ≡ false) × T b
both true b h = absurd h
both false b h = (refl, h)

each_in : (k : ℕ) (cs : List Config) → T (all_in k cs) → (s : ℕ) → s < length cs → number_out (k + s) (nth cs s) ≡ false
unfolding all_in nth
each_in k [] t s h = absurd (omega arith)
each_in k (c ∷ cs) t zero h = subst (λ n. number_out n c ≡ false) (omega arith) (both (number_out k c) (all_in (suc k) cs) t).0
each_in k (c ∷ cs) t (suc s) h = subst (λ n. number_out n (nth cs s) ≡ false) (omega arith) (each_in (suc k) cs (both (number_out k c) (all_in (suc k) cs) t).1 s (le_of_suc-le-suc h))

pub in_range : (cs : List Config) → T (leb 1 (length cs)) → T (leb (length cs) 256) → T (all_in 0 cs) → InRange (plan_of cs)
in_range cs l m t = record { some = leb→le 1 (length cs) l; most = leb→le (length cs) 256 m; each = λ s h. subst (λ n. number_out n (nth cs s) ≡ false) (omega arith) (each_in 0 cs t s h) }

-- ---- lists of calls

abbrev pub at : ℕ → ℕ → ℕ → ℕ → Matter → Event
at t target source number m = record { time = t; target = target; source = source; number = number; matter = m }

unfoldable pub zeros : ℕ → List ℕ
zeros zero = []
zeros (suc n) = 0 ∷ zeros n

-- each call with its answer
unfoldable pub pairs : List Call → List Answer → List Made
pairs [] answers = []
pairs (c ∷ cs) [] = []
pairs (c ∷ cs) (a ∷ answers) = record { asked = c; said = a } ∷ pairs cs answers

-- an engine of the plan, opened with this leaf width and capacity and asked these calls one after the other, gives these answers
abbrev pub Gives : List Config → Setting → List Call → List Answer → Type 0
Gives cs setting calls answers = (f : Engine) × Calls (plan_of cs) (opened (plan_of cs) setting) (pairs calls answers) f

pub computed : (cs : List Config) (setting : Setting) (calls : List Call) (answers : List Answer) → InRange (plan_of cs)
    → answers_to (plan_of cs) (opened (plan_of cs) setting) calls ≡ pairs calls answers → Gives cs setting calls answers
computed cs setting calls answers r e =
    (left_by (plan_of cs) (opened (plan_of cs) setting) calls, subst (λ ms. Calls (plan_of cs) (opened (plan_of cs) setting) ms (left_by (plan_of cs) (opened (plan_of cs) setting) calls)) e (opened_answers (plan_of cs) r setting calls))
