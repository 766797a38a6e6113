-- Every engine that calls have left answers every call in exactly one way: as `Compute` computes it.
use mathlib.Core.Path.{◌≡◌, refl, sym, ap, ◌∙◌}
use mathlib.Core.List.{List}
use Prim.Native.Nat.{ℕ}
use Rattle.refusal.specs.Tests.{Verdict, accepted, or_next, judged}
use Rattle.line.specs.declared.Event.{Event}
use Rattle.line.specs.Station.{Plan, InRange}
use Rattle.rules.specs.Held.{Lowest, undone}
use Rattle.rules.specs.Engine.{Setting, Engine, opened, Call, Post, Retract, RunStation, RunLowest, Commit, Record, Answer, Refused, Posted, Retracted, Ran}
use Rattle.rules.specs.Checks.{checks}
use Rattle.rules.specs.Calls.{post_of, with, Answers, refuse, post, retract, run, lowest, lowest_refused, commit, recorded, lowest_words, after_post}
use Rattle.rules.specs.Demand.{Made, Calls, posts, retracted, logs}
use Rattle.rules.specs.Executable.{adding, removing, run_least}
use Rattle.rules.proofs.Undo.Agree.{does_agree}
use Rattle.rules.proofs.Calls.Compute.{Step, settle, post_step, retract_step, run_step, station_step, counting, counting_step, commit_step, answer_to}
use Rattle.rules.proofs.Calls.Invariant.{Inv, held_neat}
use Rattle.rules.proofs.Calls.Step.{run_queue}
use Rattle.rules.proofs.Calls.Lowest.{lowest_is, one_lowest, lowest_unrun}
use Rattle.rules.proofs.Calls.Answered.{first_of, post_fits, answer_is}
use Rattle.rules.proofs.Calls.Demand3.{after_calls}

abbrev step : Answer → Engine → Step
step a f = record { answer = a; engine = f }

-- ---- how a call is settled

settled : {v : Verdict} (e : Engine) (d : Step) → v ≡ accepted → settle v e d ≡ d
unfolding settle
settled e d j = rw j

settles : (p : Plan) (e : Engine) (c : Call) → (d : Step) × (answer_to p e c ≡ settle (judged (checks p e c)) e d)
unfolding answer_to station_step
settles p e (Post s t kind value) = (_, refl)
settles p e (Retract n) = (_, refl)
settles p e (RunStation s) = (_, refl)
settles p e RunLowest = (_, refl)
settles p e (Commit c output) = (_, refl)
settles p e (Record s) = (_, refl)

some_lowest : (p : Plan) (e : Engine) {s : ℕ} → Lowest e.queue.held s → judged (checks p e RunLowest) ≡ accepted
unfolding checks judged or_next
some_lowest p e l = rw (lowest_unrun l)

module _ (p : Plan) (S : InRange p) where
  -- ---- what the rules answer is what is computed

  -- run lowest passes on what run station answers for the lowest station
  passes : {e f : Engine} {s : ℕ} (a : Answer) (ps : List Event) (gone log : List ℕ) → Inv p e ps gone log → Lowest e.queue.held s
      → step a f ≡ station_step p e s → step (counting (lowest_words p e) a) f ≡ answer_to p e RunLowest
  unfolding answer_to counting_step
  passes {e} a ps gone log i l r =
      let s = one_lowest l (lowest_is e.queue.held i.ok.sorted (lowest_unrun l)) in
      ap (counting_step (lowest_words p e)) r ∙ ap (λ t. counting_step (lowest_words p e) (station_step p e t)) s ∙ sym (settled e _ (some_lowest p e l))

  pub answer_only : {e f : Engine} {c : Call} {a : Answer} (ps : List Event) (gone log : List ℕ) → Inv p e ps gone log → Answers p e c a f
      → step a f ≡ answer_to p e c
  unfolding settle answer_to post_step retract_step run_step station_step counting commit_step
  answer_only ps gone log i (refuse {e = e} {c = c} j) = let d = settles p e c in sym (d.1 ∙ ap (λ v. settle v e d.0) j)
  answer_only ps gone log i (post {e = e} {s = s} {t = t} {kind = kind} {value = value} {m = m} {q = q} j k d) =
      let f = post_fits p S e ps gone log i s t kind value m j in
      let z : q ≡ adding p e.queue (post_of e.next s t m) = (does_agree p d (held_neat p S e ps gone log i) f.0 f.1).0 in
      ap (λ r. step (Posted e.next (undone e.queue.held r.held)) (after_post e r)) z ∙ sym (settled e _ j ∙ ap (post_step p e s t) k)
  answer_only ps gone log i (retract {e = e} {n = n} {x = x} {q = q} j k d) =
      let z : q ≡ removing p e.queue x = (does_agree p d (held_neat p S e ps gone log i)).0 in
      ap (λ r. step (Retracted (undone e.queue.held r.held)) (with e r)) z ∙ sym (settled e _ j ∙ ap (retract_step p e) k)
  answer_only ps gone log i (run {e = e} {s = s} {x = x} {q = q} j k d) =
      let z : q ≡ run_least p e.queue x = run_queue p S e ps gone log i x (first_of p S e ps gone log i s x k) q d in
      ap (λ r. step (Ran s (undone e.queue.held r.held)) (with e r)) z ∙ sym (settled e _ j ∙ ap (run_step p e s) k)
  answer_only ps gone log i (lowest {s = s} {u = u} l d) = passes (Ran s u) ps gone log i l (answer_only ps gone log i d)
  answer_only ps gone log i (lowest_refused {n = n} l d) = passes (Refused n) ps gone log i l (answer_only ps gone log i d)
  answer_only ps gone log i (commit {e = e} j) = sym (settled e _ j)
  answer_only ps gone log i (recorded {e = e} j) = sym (settled e _ j)

  -- ---- one answer for every call

  pub one_answer : {e f g : Engine} {c : Call} {a b : Answer} (ps : List Event) (gone log : List ℕ) → Inv p e ps gone log
      → Answers p e c a f → Answers p e c b g → (a ≡ b) × (f ≡ g)
  one_answer ps gone log i d k =
      let z = answer_only ps gone log i d ∙ sym (answer_only ps gone log i k) in
      (ap (λ (x : Step). x.answer) z, ap (λ (x : Step). x.engine) z)

  -- an engine that an opening and calls have left answers every call, in one way
  pub exactly_one : (setting : Setting) {ms : List Made} {e : Engine} → Calls p (opened p setting) ms e → (c : Call)
      → (a : Answer) × (f : Engine) × Answers p e c a f × ((b : Answer) (g : Engine) → Answers p e c b g → (b ≡ a) × (g ≡ f))
  exactly_one setting {ms} {e} k c =
      let i = (after_calls p S setting k).0 in
      let d = answer_is p S e (posts p 0 ms) (retracted ms) (logs ms) i c in
      ((answer_to p e c).answer, (answer_to p e c).engine, d, λ b g h. one_answer (posts p 0 ms) (retracted ms) (logs ms) i h d)
