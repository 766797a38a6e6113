-- The answers to a list of calls after an opening are computed from the plan, what the opening chose and the calls alone, so two lists of the same calls
-- have the same.
use mathlib.Core.Path.{◌≡◌, refl, sym, ap, ◌∙◌}
use mathlib.Core.List.{List, [], ◌∷◌, ◌++◌, map}
use Prim.Native.Nat.{ℕ, ◌*◌}
use native.Mathlib.Omega.{arith}
use lib.ListN.{length, drop, replicate, length-replicate}
use lib.Seq.{take-take}
use Rattle.refusal.specs.Tests.{Verdict, accepted, refused, judged}
use Rattle.line.specs.declared.Event.{Event}
use Rattle.line.specs.Station.{Plan, InRange}
use Rattle.entry.proofs.Entries.{entries_first}
use Rattle.rules.specs.Held.{logged}
use Rattle.rules.specs.Engine.{Setting, Engine, opened, Call, Post, Retract, RunStation, RunLowest, Commit, Record, Answer, Refused, Posted, Retracted, Ran, RanLowest, Committed, Recorded}
use Rattle.rules.specs.Checks.{checks}
use Rattle.rules.specs.Calls.{Answers}
use Rattle.rules.specs.Demand.{Made, Calls, end, next, log_in, logs}
use Rattle.rules.specs.Alike.{calls_of, answers_of, blanked, trimmed, Alike}
use Rattle.rules.proofs.Calls.Compute.{Step, settle, commit_step, answer_to, answers_to}
use Rattle.rules.proofs.Calls.Invariant.{Inv, opened_inv}
use Rattle.rules.proofs.Calls.Step.{call_next}
use Rattle.rules.proofs.Calls.OneAnswer.{answer_only}

-- ---- what the output of a commit held

-- the same but for the bytes behind a log
abbrev SameStep : Step → Step → Type 0
SameStep d k = (trimmed d.answer ≡ trimmed k.answer) × (d.engine ≡ k.engine)

module _ (p : Plan) (e : Engine) where
  -- of an output the length is judged
  same_length : (c : ℕ) (output other : List ℕ) → length output ≡ length other → checks p e (Commit c output) ≡ checks p e (Commit c other)
  unfolding checks
  same_length c output other h = rw h

  -- two commits of other outputs, judged alike
  same_commit : (v : Verdict) (c : ℕ) (output other : List ℕ) → SameStep (settle v e (commit_step e c output)) (settle v e (commit_step e c other))
  unfolding settle commit_step trimmed
  same_commit (refused n) c output other = (refl, refl)
  same_commit accepted c output other =
      let log = logged c e.queue.held in
      let from = 24 * length log in
      (ap (Committed (length log)) (entries_first log (drop from output) ∙ sym (entries_first log (drop from other))), refl)

  same_step : (c : Call) → SameStep (answer_to p e (blanked c)) (answer_to p e c)
  unfolding blanked answer_to
  same_step (Post s t kind value) = (refl, refl)
  same_step (Retract n) = (refl, refl)
  same_step (RunStation s) = (refl, refl)
  same_step RunLowest = (refl, refl)
  same_step (Commit c output) =
      rw (same_length c _ output (length-replicate {A = ℕ} (length output) 0))
      (same_commit (judged (checks p e (Commit c output))) c (replicate (length output) 0) output)
  same_step (Record s) = (refl, refl)

-- ---- one call

module _ (p : Plan) (S : InRange p) {e : Engine} (ps : List Event) (gone log : List ℕ) (i : Inv p e ps gone log) where
  as_blanked : {f : Engine} {c : Call} {a : Answer} → Answers p e c a f → SameStep (record { answer = a; engine = f }) (answer_to p e (blanked c))
  as_blanked {c = c} d =
      let z = answer_only p S ps gone log i d in
      let k = same_step p e c in
      (ap (λ (x : Step). trimmed x.answer) z ∙ sym k.0, ap (λ (x : Step). x.engine) z ∙ sym k.1)

  pub same_answer : {f g : Engine} (c d : Call) {a b : Answer} → blanked c ≡ blanked d → Answers p e c a f → Answers p e d b g
      → (trimmed a ≡ trimmed b) × (f ≡ g)
  same_answer c d k x y =
      let m = as_blanked x in
      let n = as_blanked y in
      (m.0 ∙ ap (λ h. trimmed (answer_to p e h).answer) k ∙ sym n.0, m.1 ∙ ap (λ h. (answer_to p e h).engine) k ∙ sym n.1)

-- ---- the joined logs of the answers

unfoldable pub joined : List Answer → List ℕ
joined [] = []
joined (a ∷ rest) = log_in a ++ joined rest

log_trimmed : (a : Answer) → log_in (trimmed a) ≡ log_in a
unfolding log_in trimmed
log_trimmed (Refused n) = refl
log_trimmed (Posted n u) = refl
log_trimmed (Retracted u) = refl
log_trimmed (Ran s u) = refl
log_trimmed (RanLowest s u w) = refl
log_trimmed (Committed n output) = take-take (24 * n) (24 * n) output (omega arith)
log_trimmed (Recorded st) = refl

pub logs_joined : (ms : List Made) → logs ms ≡ joined (map trimmed (answers_of ms))
unfolding logs joined
logs_joined [] = refl
logs_joined (m ∷ ms) = rw (log_trimmed m.said, logs_joined ms)

-- ---- what a list answers is what is computed

module _ (p : Plan) (S : InRange p) where
  calls_only : {e f : Engine} {ms : List Made} (ps : List Event) (gone log : List ℕ) → Inv p e ps gone log → Calls p e ms f
      → ms ≡ answers_to p e (calls_of ms)
  unfolding answers_to
  calls_only ps gone log i end = refl
  calls_only ps gone log i (next {m = m} {ms = ms} d c) =
      let r = calls_only _ _ _ (call_next p S ps gone log d i).inv c in
      ap (λ ns. m ∷ ns) r
      ∙ ap (λ (k : Step). record { asked = m.asked; said = k.answer } ∷ answers_to p k.engine (calls_of ms)) (answer_only p S ps gone log i d)

  calls_trimmed : (cs : List Call) (e : Engine) → map trimmed (answers_of (answers_to p e (map blanked cs))) ≡ map trimmed (answers_of (answers_to p e cs))
  unfolding answers_to
  calls_trimmed [] e = refl
  calls_trimmed (c ∷ cs) e =
      let k = same_step p e c in
      rw (k.0, k.1, calls_trimmed cs (answer_to p e c).engine)

  module _ (setting : Setting) where
    -- what is shown of the answers
    abbrev pub shown : List Call → List Answer
    shown cs = map trimmed (answers_of (answers_to p (opened p setting) cs))

    pub only : {ms : List Made} {f : Engine} → Calls p (opened p setting) ms f → ms ≡ answers_to p (opened p setting) (calls_of ms)
    only k = calls_only [] [] [] (opened_inv p setting) k

    pub shows : {ms : List Made} {f : Engine} → Calls p (opened p setting) ms f → map trimmed (answers_of ms) ≡ shown (map blanked (calls_of ms))
    shows {ms} k = ap (λ l. map trimmed (answers_of l)) (only k) ∙ sym (calls_trimmed (calls_of ms) (opened p setting))

    pub alike : {ms ns : List Made} {f g : Engine} → Calls p (opened p setting) ms f → Calls p (opened p setting) ns g → Alike ms ns
    alike {ms} {ns} c d = record {
      same = λ k. only c ∙ ap (answers_to p (opened p setting)) k ∙ sym (only d);
      answers = answers;
      logs_are = λ k. logs_joined ms ∙ ap joined (answers k) ∙ sym (logs_joined ns);
    }
      where
        answers : map blanked (calls_of ms) ≡ map blanked (calls_of ns) → map trimmed (answers_of ms) ≡ map trimmed (answers_of ns)
        answers k = shows c ∙ ap shown k ∙ sym (shows d)
