-- The first calls of a list: they are calls, and the commit time after them is at most H + 1.
use mathlib.Core.List.{List, [], ◌∷◌, ◌++◌}
use mathlib.Core.Bool.{cond}
use Prim.Native.Nat.{ℕ, ◌+◌, ◌≤◌}
use borrow.Author.Tests.{ltb-false}
use Rattle.refusal.specs.Tests.{horizon, floor_late, judged}
use Rattle.refusal.proofs.CheckingOrder.{not_holding}
use Rattle.line.specs.Station.{Plan}
use Rattle.rules.specs.Engine.{Engine, Call, Answer}
use Rattle.rules.specs.Checks.{checks}
use Rattle.rules.specs.Calls.{Answers, refuse, post, retract, run, lowest, lowest_refused, commit, recorded}
use Rattle.rules.specs.Demand.{Made, Calls, end, next, is_refused, time_in, last_commit}

-- the engine that they leave
pub first_calls : {p : Plan} {e f : Engine} (bs ms : List Made) → Calls p e (bs ++ ms) f → (g : Engine) × Calls p e bs g
first_calls {e = e} [] ms c = (e, end)
first_calls (b ∷ bs) ms (next d c) = let r = first_calls bs ms c in (r.0, next d r.1)

in_time : {p : Plan} {e f : Engine} {asked : Call} {said : Answer} (now : ℕ) → Answers p e asked said f → now ≤ horizon + 1
    → cond (is_refused said) now (time_in now asked) ≤ horizon + 1
unfolding time_in checks judged
in_time now (refuse j) h = h
in_time now (post j m d) h = h
in_time now (retract j m d) h = h
in_time now (run j m d) h = h
in_time now (lowest l d) h = h
in_time now (lowest_refused l d) h = h
in_time now (commit {c = c} j) h = ltb-false (horizon + 1) c (not_holding (floor_late c) 11 _ j).0
in_time now (recorded j) h = h

pub commit_in_time : {p : Plan} {e f : Engine} {ms : List Made} (now : ℕ) → Calls p e ms f → now ≤ horizon + 1 → last_commit now ms ≤ horizon + 1
unfolding last_commit
commit_in_time now end h = h
commit_in_time now (next {m = m} d c) h = commit_in_time (cond (is_refused m.said) now (time_in now m.asked)) c (in_time now d h)
