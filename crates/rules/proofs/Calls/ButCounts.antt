-- Engines that differ in arity and leaf width alone answer the same but the counts of words read, and differ in these alone after that.
use mathlib.Core.Path.{◌≡◌, refl, sym, ap, ◌∙◌}
use mathlib.Core.List.{List, [], ◌∷◌, map}
use Prim.Native.Nat.{ℕ}
use Rattle.std.specs.Prelude.{Ok, Err, Result}
use Rattle.refusal.specs.declared.Refusal.{Refusal}
use Rattle.refusal.specs.Tests.{Verdict, accepted, refused, judged}
use Rattle.line.specs.declared.Matter.{Matter}
use Rattle.line.specs.Matter.{matter_of}
use Rattle.line.specs.Station.{Plan, InRange}
use Rattle.rules.specs.Held.{Found, none, some, least_unrun, held_post}
use Rattle.rules.specs.Engine.{chosen, Engine, opened, Call, Post, Retract, RunStation, RunLowest, Commit, Record, Answer, Refused, Posted, Retracted, Ran, RanLowest, Committed, Recorded}
use Rattle.rules.specs.Checks.{run_passes, run_too_few, checks}
use Rattle.rules.specs.Calls.{with, lowest_words}
use Rattle.rules.specs.Demand.{Made, Calls, log_in, logs}
use Rattle.rules.specs.Alike.{calls_of, answers_of, blanked, trimmed, uncounted, AlikeButCounts}
use Rattle.rules.proofs.Calls.Compute.{Step, settle, post_step, retract_step, run_step, station_step, lowest_of, counting, counting_step, commit_step, answer_to, answers_to}
use Rattle.rules.proofs.Calls.Alike.{shown, only, shows, joined, logs_joined}

-- the engine with another arity and leaf width
abbrev shaped : ℕ → ℕ → Engine → Engine
shaped a w e = record { setting = chosen a w e.setting.capacity; next = e.next; now = e.now; queue = e.queue }

-- the same answer but the count, and engines that differ in arity and leaf width alone
abbrev SameBut : ℕ → ℕ → Step → Step → Type 0
SameBut a w d k = (uncounted d.answer ≡ uncounted k.answer) × (shaped a w d.engine ≡ k.engine)

-- ---- one call

module _ (p : Plan) (e : Engine) (a w : ℕ) where
  -- neither of them is judged
  same_passes : (l : Found) → run_passes p (shaped a w e) l ≡ run_passes p e l
  same_passes none = refl
  same_passes (some x) = refl

  same_few : (l : Found) → run_too_few p (shaped a w e) l ≡ run_too_few p e l
  same_few none = refl
  same_few (some x) = refl

  same_checks : (c : Call) → checks p (shaped a w e) c ≡ checks p e c
  unfolding checks
  same_checks (Post s t kind value) = refl
  same_checks (Retract n) = refl
  same_checks (RunStation s) = let l = least_unrun s e.queue.held in rw (same_passes l, same_few l)
  same_checks RunLowest = refl
  same_checks (Commit c output) = refl
  same_checks (Record s) = refl

  settled : (c : Call) (d k : Step) → SameBut a w d k
      → SameBut a w (settle (judged (checks p e c)) e d) (settle (judged (checks p (shaped a w e) c)) (shaped a w e) k)
  unfolding settle
  settled c d k h = rw (same_checks c) (go (judged (checks p e c)))
    where
      go : (v : Verdict) → SameBut a w (settle v e d) (settle v (shaped a w e) k)
      go accepted = h
      go (refused n) = (refl, refl)

  same_post : (s t : ℕ) (m : Result Matter Refusal) → SameBut a w (post_step p e s t m) (post_step p (shaped a w e) s t m)
  unfolding post_step
  same_post s t (Ok m) = (refl, refl)
  same_post s t (Err r) = (refl, refl)

  same_retract : (l : Found) → SameBut a w (retract_step p e l) (retract_step p (shaped a w e) l)
  unfolding retract_step with
  same_retract none = (refl, refl)
  same_retract (some x) = (refl, refl)

  same_run : (s : ℕ) (l : Found) → SameBut a w (run_step p e s l) (run_step p (shaped a w e) s l)
  unfolding run_step with
  same_run s none = (refl, refl)
  same_run s (some x) = (refl, refl)

  same_station : (s : ℕ) → SameBut a w (station_step p e s) (station_step p (shaped a w e) s)
  unfolding station_step
  same_station s = settled (RunStation s) _ _ (same_run s (least_unrun s e.queue.held))

  any_count : (v : ℕ) (r : Answer) → uncounted (counting v r) ≡ uncounted r
  unfolding uncounted counting
  any_count v (Refused n) = refl
  any_count v (Posted n k) = refl
  any_count v (Retracted k) = refl
  any_count v (Ran s k) = refl
  any_count v (RanLowest s k c) = refl
  any_count v (Committed n output) = refl
  any_count v (Recorded st) = refl

  counted : (u v : ℕ) (d k : Step) → SameBut a w d k → SameBut a w (counting_step u d) (counting_step v k)
  unfolding counting_step
  counted u v d k h = (any_count u d.answer ∙ h.0 ∙ sym (any_count v k.answer), h.1)

  same_answer : (c : Call) → SameBut a w (answer_to p e c) (answer_to p (shaped a w e) c)
  unfolding answer_to commit_step
  same_answer (Post s t kind value) = settled (Post s t kind value) _ _ (same_post s t (matter_of p.count kind value))
  same_answer (Retract n) = settled (Retract n) _ _ (same_retract (held_post n e.queue.held))
  same_answer (RunStation s) = same_station s
  same_answer RunLowest =
      settled RunLowest _ _ (counted (lowest_words p e) (lowest_words p (shaped a w e)) _ _ (same_station (lowest_of e.queue.held)))
  same_answer (Commit c output) = settled (Commit c output) _ _ (refl, refl)
  same_answer (Record s) = settled (Record s) _ _ (refl, refl)

-- ---- lists of calls

same_answers : (p : Plan) (a w : ℕ) (cs : List Call) (e : Engine)
    → map uncounted (answers_of (answers_to p e cs)) ≡ map uncounted (answers_of (answers_to p (shaped a w e) cs))
unfolding answers_to
same_answers p a w [] e = refl
same_answers p a w (c ∷ cs) e =
    let k = same_answer p e a w c in
    let r = same_answers p a w cs (answer_to p e c).engine in
    rw (k.0, sym k.1, r)

uncounted_trimmed : (a : Answer) → uncounted (trimmed a) ≡ trimmed (uncounted a)
unfolding uncounted trimmed
uncounted_trimmed (Refused n) = refl
uncounted_trimmed (Posted n u) = refl
uncounted_trimmed (Retracted u) = refl
uncounted_trimmed (Ran s u) = refl
uncounted_trimmed (RanLowest s u v) = refl
uncounted_trimmed (Committed n output) = refl
uncounted_trimmed (Recorded st) = refl

all_trimmed : (rs : List Answer) → map uncounted (map trimmed rs) ≡ map trimmed (map uncounted rs)
all_trimmed [] = refl
all_trimmed (a ∷ rs) = rw (uncounted_trimmed a, all_trimmed rs)

log_uncounted : (a : Answer) → log_in (uncounted a) ≡ log_in a
unfolding uncounted log_in
log_uncounted (Refused n) = refl
log_uncounted (Posted n u) = refl
log_uncounted (Retracted u) = refl
log_uncounted (Ran s u) = refl
log_uncounted (RanLowest s u v) = refl
log_uncounted (Committed n output) = refl
log_uncounted (Recorded st) = refl

joined_uncounted : (rs : List Answer) → joined (map uncounted rs) ≡ joined rs
unfolding joined
joined_uncounted [] = refl
joined_uncounted (a ∷ rs) = rw (log_uncounted a, joined_uncounted rs)

module _ (p : Plan) (S : InRange p) (a v b w capacity : ℕ) where
  others : (cs : List Call)
      → map uncounted (answers_of (answers_to p (opened p (chosen a v capacity)) cs)) ≡ map uncounted (answers_of (answers_to p (opened p (chosen b w capacity)) cs))
  unfolding opened
  others cs = same_answers p b w cs (opened p (chosen a v capacity))

  pub alike_but_counts : {ms ns : List Made} {f g : Engine} → Calls p (opened p (chosen a v capacity)) ms f → Calls p (opened p (chosen b w capacity)) ns g
      → AlikeButCounts ms ns
  alike_but_counts {ms} {ns} c d = record {
    same = λ k.
        ap (λ l. map uncounted (answers_of l)) (only p S (chosen a v capacity) c)
        ∙ ap (λ cs. map uncounted (answers_of (answers_to p (opened p (chosen a v capacity)) cs))) k
        ∙ others (calls_of ns)
        ∙ ap (λ l. map uncounted (answers_of l)) (sym (only p S (chosen b w capacity) d));
    answers = answers;
    logs_are = λ k. bare ms ∙ ap joined (answers k) ∙ sym (bare ns);
  }
    where
      answers : map blanked (calls_of ms) ≡ map blanked (calls_of ns)
          → map uncounted (map trimmed (answers_of ms)) ≡ map uncounted (map trimmed (answers_of ns))
      answers k =
          ap (map uncounted) (shows p S (chosen a v capacity) c ∙ ap (shown p S (chosen a v capacity)) k)
          ∙ all_trimmed (answers_of (answers_to p (opened p (chosen a v capacity)) (map blanked (calls_of ns))))
          ∙ ap (map trimmed) (others (map blanked (calls_of ns)))
          ∙ sym (all_trimmed (answers_of (answers_to p (opened p (chosen b w capacity)) (map blanked (calls_of ns)))))
          ∙ ap (map uncounted) (sym (shows p S (chosen b w capacity) d))

      bare : (ls : List Made) → logs ls ≡ joined (map uncounted (map trimmed (answers_of ls)))
      bare ls = logs_joined ls ∙ sym (joined_uncounted (map trimmed (answers_of ls)))
