-- The logs of the accepted commits: 19 holds of none where it does not hold of the joined logs, which they are one by one.
use mathlib.Core.Path.{◌≡◌, refl, ap}
use mathlib.Core.Bool.{Bool, true, false, cond, true≢false}
use mathlib.Core.List.{List, [], ◌∷◌, ◌++◌, flatten}
use Prim.Native.Nat.{ℕ, ◌*◌, ◌%◌}
use native.Mathlib.Omega.{arith}
use lib.ListN.{length, drop}
use Rattle.line.specs.Order.{All}
use Rattle.line.specs.Station.{Plan}
use Rattle.entry.proofs.Entries.{entries_length, entries_first}
use Rattle.rules.specs.Held.{logged}
use Rattle.rules.specs.Engine.{Engine, Call, Answer, Refused as NotDone, Posted, Retracted, Ran, RanLowest, Committed, Recorded}
use Rattle.rules.specs.Calls.{Answers, refuse, post, retract, run, lowest, lowest_refused, commit, recorded}
use Rattle.rules.specs.Demand.{Made, Calls, end, next, log_in, logs}
use Rattle.account_parts.specs.Part.{part_out}
use Rattle.account_commits.specs.CommittedCharge.{is_commit, commit_logs}
use Rattle.account_commits.proofs.PartsFit.{pieces_fit}

-- each has whole entries
answer_whole : {p : Plan} {e f : Engine} {c : Call} {a : Answer} → Answers p e c a f → length (log_in a) % 24 ≡ 0
unfolding log_in
answer_whole (refuse j) = refl
answer_whole (post j k d) = refl
answer_whole (retract j k d) = refl
answer_whole (run j k d) = refl
answer_whole (lowest l d) = refl
answer_whole (lowest_refused l d) = refl
answer_whole (commit {e = e} {c = c} {output = output} j) =
    rw (entries_first (logged c e.queue.held) (drop (24 * length (logged c e.queue.held)) output))
    (omega (arith, entries_length (logged c e.queue.held)))
answer_whole (recorded j) = refl

pub logs_fit : {p : Plan} {e f : Engine} {ms : List Made} (n : ℕ) → Calls p e ms f → part_out n (logs ms) ≡ false
    → All (λ m. part_out n (log_in m.said) ≡ false) ms
unfolding logs
logs_fit n end h = tt
logs_fit n (next {m = m} {ms = ms} d c) h =
    let q = pieces_fit n (log_in m.said) (logs ms) (answer_whole d) h in
    (q.0, logs_fit n c q.1)

-- ---- one by one

-- any other answer has none
not_logged : (a : Answer) → is_commit a ≡ false → log_in a ≡ []
unfolding log_in
not_logged (NotDone n) e = refl
not_logged (Posted n u) e = refl
not_logged (Retracted u) e = refl
not_logged (Ran s u) e = refl
not_logged (RanLowest s u w) e = refl
not_logged (Committed n output) e = absurd (true≢false e)
not_logged (Recorded st) e = refl

pub commits_joined : (ms : List Made) → flatten (commit_logs ms) ≡ logs ms
unfolding commit_logs logs flatten
commits_joined [] = refl
commits_joined (m ∷ ms) = go (is_commit m.said) refl (commits_joined ms)
  where
    go : (v : Bool) → is_commit m.said ≡ v → flatten (commit_logs ms) ≡ logs ms
        → flatten (cond v (log_in m.said ∷ commit_logs ms) (commit_logs ms)) ≡ log_in m.said ++ logs ms
    go true e i = ap (λ l. log_in m.said ++ l) i
    go false e i = rw (not_logged m.said e) i

pub commits_all : (P : List ℕ → Type 0) (ms : List Made) → All (λ m. P (log_in m.said)) ms → All P (commit_logs ms)
unfolding commit_logs
commits_all P [] a = tt
commits_all P (m ∷ ms) a = go (is_commit m.said) (commits_all P ms a.1)
  where
    go : (v : Bool) → All P (commit_logs ms) → All P (cond v (log_in m.said ∷ commit_logs ms) (commit_logs ms))
    go true i = (a.0, i)
    go false i = i
