-- An account that reads what an engine committed (document 02, change 1): 19 refuses no log of an accepted commit, and the charges are what the plain
-- machine's log costs.
use Rattle.std.specs.Prelude.{ℕ, ◌+◌, ◌*◌, ◌<◌, ◌≡◌, Bool, true, false, cond, List, [], ◌∷◌, map, Result, Ok, Err, ⊤}
use Rattle.words.specs.Sums.{sum_to}
use Rattle.refusal.specs.declared.Refusal.{Refusal}
use Rattle.refusal.specs.declared.Refusal.TheVariants.{Part}
use Rattle.refusal.specs.Tests.{charge_passes}
use Rattle.line.specs.declared.Event.{Event}
use Rattle.line.specs.Matter.{kind_of, value_of}
use Rattle.line.specs.Order.{All}
use Rattle.rules.specs.Machine.{Machine}
use Rattle.rules.specs.Engine.{Setting, Answer, Refused as NotDone, Posted, Retracted, Ran, RanLowest, Committed, Recorded}
use Rattle.rules.specs.Demand.{Made, log_in, logs, Comes}
use Rattle.plan_format.specs.Line.{line_of}
use Rattle.engine.specs.Printouts.{Printout}
use Rattle.account_parts.specs.Part.{LogEntry, part_out}
use Rattle.account_parts.specs.Cost.{cost_at, readings, frames}
use Rattle.account.specs.Promises.{OpensAccount, ReadsPart, charge_of}
use Rattle.account.specs.Session.{Handed, PartsRead, log_read}

-- ---- what the commits wrote

-- an event, as an account reads its entry
abbrev pub entry_of : Event → LogEntry
entry_of x = record { time = x.time; value = value_of x.matter; target = x.target; source = x.source; kind = kind_of x.matter }

abbrev pub is_commit : Answer → Bool
is_commit (NotDone n) = false
is_commit (Posted n u) = false
is_commit (Retracted u) = false
is_commit (Ran s u) = false
is_commit (RanLowest s u w) = false
is_commit (Committed n output) = true
is_commit (Recorded st) = false

-- "the log of an accepted commit" (document 01, "Plain machine"): of each in the list, in order
unfoldable pub commit_logs : List Made → List (List ℕ)
commit_logs [] = []
commit_logs (m ∷ ms) = cond (is_commit m.said) (log_in m.said ∷ commit_logs ms) (commit_logs ms)

-- ---- the claim

-- an account of n stations is opened with the costs a and b, in a buffer that held anything; the parts hs are read then, and leave the buffer ys
pub record Accounting (n a b : ℕ) (hs : List Handed) (ys : List ℕ) : Type 0 where
  pub before : List ℕ
  pub opened : List ℕ
  pub opening : OpensAccount n a b before (Ok tt) opened
  pub parts : PartsRead n opened hs ys

-- what is claimed of the calls ms after an accepted opening of the plan, where the plain machine that is fed them comes to k
pub record ChargedCommits (plan : List ℕ) (ms : List Made) (k : Machine) : Type 0 where
  -- with the plan's N, 19 holds of no log in the list
  pub fits : All (λ m. part_out (line_of plan).count (log_in m.said) ≡ false) ms
  -- so no read into an account of that N answers 19 to it, whatever the account's bytes
  pub never_19 :
      All (λ m. (xs ys : List ℕ) (r : Result ⊤ Refusal) → ReadsPart (line_of plan).count (log_in m.said) xs r ys → r ≡ Err Part → ⊥) ms
  -- where the log read is the joined logs, however it was cut into parts and whatever was refused between, a charge is what the machine's log costs there
  pub each : (n a b : ℕ) (hs : List Handed) (ys : List ℕ) → Accounting n a b hs ys → log_read hs ≡ logs ms
      → (s : ℕ) → s < n → charge_of n s ys ≡ Ok (cost_at a b s (map entry_of k.log))
  -- and the sum of what charge answers is A times its readings plus B times its frames
  pub sum : (n a b : ℕ) (hs : List Handed) (ys : List ℕ) → Accounting n a b hs ys → log_read hs ≡ logs ms
      → (f : ℕ → ℕ) → ((s : ℕ) → s < n → charge_of n s ys ≡ Ok (f s))
      → sum_to n f ≡ a * readings (map entry_of k.log) + b * frames (map entry_of k.log)
  -- where the parts are the logs, one by one as the commits wrote them, and no charge for the machine's log passes 64 bits, each is taken, so that the log
  -- read is the joined logs
  pub taken : (a b : ℕ) (hs : List Handed) (ys : List ℕ) → Accounting (line_of plan).count a b hs ys → map (λ h. h.part) hs ≡ commit_logs ms
      → ((s : ℕ) → s < (line_of plan).count → charge_passes (cost_at a b s (map entry_of k.log)) ≡ false)
      → All (λ h. h.said ≡ Ok tt) hs × (log_read hs ≡ logs ms)

abbrev pub CommittedCharge : Type 0
CommittedCharge =
    (plan : List ℕ) (setting : Setting) (ms : List Made) → Printout plan setting ms → (k : Machine) → Comes (line_of plan) ms k → ChargedCommits plan ms k
