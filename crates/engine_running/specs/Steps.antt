-- What the call's private steps ensure; no promise to a caller cites these.
use Rattle.std.specs.Prelude.{◌≡◌, List, ℕ, ◌+◌, ◌≤◌, ◌<◌, length, Option, Some, None, Result, Ok}
use Rattle.refusal.specs.declared.Refusal.{Refusal}
use Rattle.refusal.specs.Tests.{judged}
use Rattle.line.specs.declared.Effect.{Effect}
use Rattle.line.specs.declared.Event.{Event}
use Rattle.line.specs.Answer.{counted, sends_of, said}
use Rattle.line.specs.Station.{Plan, run_at}
use Rattle.rules.specs.Engine.{Engine, RunStation}
use Rattle.rules.specs.Checks.{checks}
use Rattle.engine_ends.specs.Ends.{first_unrun}
use Rattle.entry.specs.Entry.{event_at}
use Rattle.engine_records.specs.Records.{state_at, stored_config}
use Rattle.engine_rows.specs.Layout.{station_row, slot_row}
use Rattle.engine_index.specs.Layout.{free_ring, slot_of}
use Rattle.engine_rollback.specs.Promises.{Adds}
use Rattle.engine_promises.specs.Represents.{Represents}
use Rattle.engine_promises.specs.Steps.{verdict_of, HasRoom}
use Rattle.engine_running.specs.Promises.{RunsAt}
use Rattle.engine_running.specs.declared.NextRun.{NextRun}

-- nothing, or an event is added
abbrev pub AddsSend : ℕ → ℕ → List ℕ → Option Event → ℕ → ℕ → List ℕ → Type 0
AddsSend n c xs None node undone ys = (node ≡ 0) × (undone ≡ 0) × (ys ≡ xs)
AddsSend n c xs (Some e) node undone ys = Adds n c xs e node undone ys

-- ---- judging

-- what an accepted run has read: x is the first unrun node of station s, f what running its event does, and there is room for the sends
pub record RunReads (n c s x : ℕ) (f : Effect) (xs : List ℕ) : Type 0 where
  pub inside : s < n
  pub next : x ≡ first_unrun xs n c s
  pub above : free_ring n < x
  pub outcome : said (Some f) ≡ counted (run_at (stored_config (station_row n s) xs) (state_at (station_row n s + 32) xs) (event_at (slot_row n (slot_of n x)) xs))
  pub room : ℕ
  pub has_room : HasRoom n c xs room
  pub enough : length (sends_of f.first) + length (sends_of f.second) ≤ room

pub record JudgesRun (n c s : ℕ) (xs : List ℕ) (r : Result NextRun Refusal) : Type 0 where
  pub number : (p : Plan) (e : Engine) → Represents p e xs → p.count ≡ n → e.setting.capacity ≡ c → judged (checks p e (RunStation s)) ≡ verdict_of r
  pub reads : (f : NextRun) → r ≡ Ok f → RunReads n c s f.node f.effect xs

-- ---- the run

-- the event of node x is run, as it was judged
abbrev pub RunsNode : ℕ → ℕ → ℕ → Effect → ℕ → List ℕ → List ℕ → Type 0
RunsNode n c x f undone xs ys = (s : ℕ) → RunReads n c s x f xs → RunsAt n c s (Ok (record { station = s; undone = undone })) xs ys
