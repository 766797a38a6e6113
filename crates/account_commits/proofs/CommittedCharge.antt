-- The joined logs are the plain machine's log, whose events 19 accepts, and whose entries are read as they were written.
use mathlib.Core.Path.{◌≡◌, sym, ap, ◌∙◌, subst}
use mathlib.Core.Bool.{Bool, true, false, cond}
use mathlib.Core.List.{List, map, flatten}
use Prim.Native.Nat.{ℕ, ◌+◌, ◌*◌}
use native.Mathlib.Omega.{arith}
use lib.ListN.{length}
use Rattle.std.specs.Prelude.{Result, Ok, Err, ⊤}
use Rattle.refusal.specs.declared.Refusal.{Refusal}
use Rattle.refusal.specs.declared.Refusal.TheVariants.{Space, Part, Charge}
use Rattle.refusal.specs.Tests.{account_space_out}
use Rattle.line.specs.Order.{All}
use Rattle.line.proofs.All.{all_map}
use Rattle.entry.specs.Entry.{entries}
use Rattle.rules.specs.Demand.{log_in, logs}
use Rattle.rules.proofs.Calls.LogEvents.{LogEvent, log_events}
use Rattle.plan_format.specs.Line.{line_of}
use Rattle.engine.specs.Session.{Whole}
use Rattle.engine.proofs.Printouts.{listed}
use Rattle.account_parts.specs.Part.{entries_of, part_out}
use Rattle.account_parts.specs.Cost.{cost_at, readings, frames}
use Rattle.account.specs.Account.{reading_cost, frame_cost, charge_at, charged, any_passes}
use Rattle.account.specs.Promises.{ReadsPart}
use Rattle.account.specs.Session.{Handed, AccountSession}
use Rattle.account.proofs.Answers.{done_refused, passed}
use Rattle.account.proofs.Session.{account_claim}
use Rattle.account_commits.specs.CommittedCharge.{entry_of, Accounting, CommittedCharge}
use Rattle.account_commits.proofs.EntryRead.{entries_read}
use Rattle.account_commits.proofs.PartsFit.{log_fits}
use Rattle.account_commits.proofs.CommitLogs.{logs_fit, commits_joined, commits_all}
use Rattle.account_commits.proofs.Taken.{all_taken}

-- ---- 19

-- it is not the answer to a part of which it does not hold
never : (n : ℕ) (part xs ys : List ℕ) (r : Result ⊤ Refusal) → part_out n part ≡ false → ReadsPart n part xs r ys → r ≡ Err Part → ⊥
never n part xs ys r f w e = go (account_space_out n (length xs)) passes (sym e ∙ w.answer ∙ rw f)
  where
    passes : Bool
    passes = any_passes n (charged (reading_cost xs) (frame_cost xs) (charge_at xs) (entries_of part))

    go : (u v : Bool) → ◌≡◌ {A = Result ⊤ Refusal} (Err Part) (cond u (Err Space) (cond v (Err Charge) (Ok tt))) → ⊥
    go true v q = let z : ◌≡◌ {A = ℕ} 0 1 = cc in omega arith
    go false true q = let z : ◌≡◌ {A = ℕ} 0 1 = cc in omega arith
    go false false q = done_refused (sym q)

-- ---- an account

module _ {n a b : ℕ} {hs : List Handed} {ys : List ℕ} (c : Accounting n a b hs ys) where
  session : AccountSession n a b (length c.before) hs ys
  session = account_claim n a b c.before c.opened ys hs c.opening c.parts

  -- an opening that is accepted has passed 7
  space : account_space_out n (length c.before) ≡ false
  space = (passed (account_space_out n (length c.before)) Space (Ok tt) c.opening.answer).0

-- ---- the claim

pub committed_charge : CommittedCharge
committed_charge plan setting ms o k r = record {
  fits = fits;
  never_19 = all_map (λ m f xs ys v w e. never (line_of plan).count (log_in m.said) xs ys v f w e) ms fits;
  each = λ n a b hs ys c e s l. (session c).each s l ∙ ap (λ es. Ok (cost_at a b s es)) (read e);
  sum = λ n a b hs ys c e f h. (session c).sum f h ∙ ap (λ es. a * readings es + b * frames es) (read e);
  taken = λ a b hs ys c e low.
      all_taken (line_of plan).count a b (length c.before) hs ys (session c) (space c) (logs ms) (λ s l. rw entries_are (low s l))
      (sym (ap flatten e ∙ commits_joined ms)) (subst (All (λ part. part_out (line_of plan).count part ≡ false)) (sym e) (commits_all _ ms fits));
}
  where
    w : Whole plan setting ms o.left
    w = listed o

    log_is : logs ms ≡ entries k.log
    log_is = w.demand.log_is ∙ ap (λ m. entries m.log) (sym (w.one_machine k r))

    events : All (LogEvent (line_of plan)) k.log
    events = log_events (line_of plan) w.stands.range setting w.calls k r

    entries_are : entries_of (logs ms) ≡ map entry_of k.log
    entries_are = ap entries_of log_is ∙ entries_read (line_of plan) w.stands.range k.log events

    read : {xs : List ℕ} → xs ≡ logs ms → entries_of xs ≡ map entry_of k.log
    read e = ap entries_of e ∙ entries_are

    fits : All (λ m. part_out (line_of plan).count (log_in m.said) ≡ false) ms
    fits = logs_fit (line_of plan).count w.calls (rw log_is (log_fits (line_of plan) w.stands.range k.log events))
