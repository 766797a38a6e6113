-- Every engine that calls have left answers every call.
use mathlib.Core.Path.{◌≡◌, refl, sym, ap, ◌∙◌, subst}
use mathlib.Core.Bool.{Bool, true, false, cond, ◌&&◌, true≢false}
use mathlib.Core.List.Memᴰ
use mathlib.Core.List.{List, [], ◌∷◌}
use Prim.Native.Nat.{ℕ, suc, ◌+◌}
use native.Mathlib.Omega.{arith}
use lib.Dec.{eqb}
use Rattle.std.specs.Prelude.{Ok, Err, Result}
use Rattle.refusal.specs.declared.Refusal.{Refusal}
use Rattle.refusal.specs.Tests.{Verdict, accepted, refused, judged}
use Rattle.line.specs.declared.Event.{Event}
use Rattle.line.specs.declared.Matter.{Matter}
use Rattle.line.specs.Event.{posted}
use Rattle.line.specs.Matter.{matter_of, unsuited}
use Rattle.line.specs.Station.{Plan, InRange}
use Rattle.rules.specs.Held.{Held, unrun, ran, event, Queue, In, Found, none, some, least_unrun, Lowest, held_post, none_unrun, undone}
use Rattle.rules.specs.Undo.{Does, Remove, Add, AddEach}
use Rattle.rules.specs.Engine.{Setting, Engine, opened, Call, Post, Retract, RunStation, RunLowest, Commit, Record, Answer}
use Rattle.rules.specs.Checks.{missing, checks}
use Rattle.rules.specs.Calls.{post_of, running, Answers, refuse, post, retract, run, lowest, lowest_refused, commit, recorded, lowest_words}
use Rattle.rules.specs.Demand.{Calls, end, next}
use Rattle.rules.proofs.Calls.Compute.{Step, settle, post_step, retract_step, run_step, station_step, lowest_of, counting, counting_step, commit_step, answer_to, answers_to, left_by}
use Rattle.rules.specs.Executable.{runs}
use Rattle.rules.proofs.Replay.Replay.{sends_of}
use Rattle.rules.specs.Replay.{Neat}
use Rattle.rules.proofs.Replay.Mark.{First, first_target}
use Rattle.rules.proofs.Replay.RunsLeft.{runs_mark}
use Rattle.rules.proofs.Undo.Agree.{does_agree}
use Rattle.rules.proofs.Undo.Exist.{IsHeld, is_unrun, is_run, can_remove, can_add}
use Rattle.rules.proofs.Undo.Count.{undos, Feasible, undone_undos, undone_run, does_falls}
use Rattle.rules.proofs.Calls.Invariant.{Inv, opened_inv, least_first, held_neat, post_new}
use Rattle.rules.proofs.Calls.Step.{call_next, post_passed, run_fits, running_neat, can_run, run_queue}
use Rattle.rules.proofs.Calls.Lowest.{lowest_is}
use Rattle.refusal.proofs.CheckingOrder.{not_holding}

-- ---- an answer for every call

is_held : (y : Held) (h : List Held) → In y h → IsHeld (event y) h
is_held (unrun x) h m = is_unrun m
is_held (ran x b) h m = is_run b m

beyond : {x : Event} {y : Held} {h : List Held} → IsHeld x h → IsHeld x (y ∷ h)
beyond (is_unrun m) = is_unrun (Memᴰ.tail m)
beyond (is_run b m) = is_run b (Memᴰ.tail m)

-- a post that is found is held
post_held : (n : ℕ) (h : List Held) (x : Event) → held_post n h ≡ some x → IsHeld x h
unfolding held_post
post_held n [] x e = let z : ◌≡◌ {A = ℕ} 0 1 = cc in absurd (omega arith)
post_held n (y ∷ h) x e = go (eqb (event y).source posted && eqb (event y).number n) e (λ k. post_held n h x k)
  where
    go : (v : Bool) → cond v (some (event y)) (held_post n h) ≡ some x → (held_post n h ≡ some x → IsHeld x h) → IsHeld x (y ∷ h)
    go true f ih = let q : event y ≡ x = cc in subst (λ z. IsHeld z (y ∷ h)) q (is_held y (y ∷ h) (Memᴰ.head refl))
    go false f ih = beyond (ih f)

-- what run station answers for the lowest station, with the count
passed_on : (p : Plan) (e : Engine) {f : Engine} {s : ℕ} {a : Answer} → Lowest e.queue.held s → Answers p e (RunStation s) a f
    → Answers p e RunLowest (counting (lowest_words p e) a) f
unfolding counting
passed_on p e l (refuse j) = lowest_refused l (refuse j)
passed_on p e l (run j k d) = lowest l (run j k d)

module _ (p : Plan) (S : InRange p) (e : Engine) (posts : List Event) (gone log : List ℕ) (i : Inv p e posts gone log) where
  neat : Neat p e.queue.held
  neat = held_neat p S e posts gone log i

  pub first_of : (s : ℕ) (x : Event) → least_unrun s e.queue.held ≡ some x → First x.target x e.queue.held
  first_of s x k = let g = least_first s e.queue.held x k in subst (λ t. First t x e.queue.held) (sym (first_target g)) g

  pub post_fits : (s t kind value : ℕ) (m : Matter) → judged (checks p e (Post s t kind value)) ≡ accepted → Feasible p (Add (post_of e.next s t m)) e.queue
  unfolding post_of
  post_fits s t kind value m j = ((post_passed p e s t kind value j).0, post_new p S e posts gone log i (record { time = t; target = s; source = posted; number = e.next; matter = m }) refl refl)

  -- ---- each call, accepted

  abbrev Is : Call → Step → Type 0
  Is c d = Answers p e c d.answer d.engine

  settled : (c : Call) (d : Step) → (judged (checks p e c) ≡ accepted → Is c d) → Is c (settle (judged (checks p e c)) e d)
  unfolding settle
  settled c d f = go (judged (checks p e c)) refl
    where
      go : (v : Verdict) → judged (checks p e c) ≡ v → Is c (settle v e d)
      go accepted j = f j
      go (refused n) j = refuse j

  post_is : (s t kind value : ℕ) → judged (checks p e (Post s t kind value)) ≡ accepted
      → Is (Post s t kind value) (post_step p e s t (matter_of p.count kind value))
  unfolding post_step checks judged
  post_is s t kind value j = go (matter_of p.count kind value) refl
    where
      go : (m : Result Matter Refusal) → matter_of p.count kind value ≡ m → Is (Post s t kind value) (post_step p e s t m)
      go (Err r) k = absurd (true≢false (sym (ap unsuited k) ∙ (not_holding _ 10 _ (not_holding _ 9 _ j).1).0))
      go (Ok m) k =
          let d = can_add p S e.queue i.machine.waiting i.machine.states i.ok neat (post_of e.next s t m) in
          let f = post_fits s t kind value m j in
          post j k (subst (Does p (Add (post_of e.next s t m)) e.queue) (does_agree p d.1 neat f.0 f.1).0 d.1)

  retract_is : (n : ℕ) → judged (checks p e (Retract n)) ≡ accepted → Is (Retract n) (retract_step p e (held_post n e.queue.held))
  unfolding retract_step checks judged
  retract_is n j = go (held_post n e.queue.held) refl
    where
      go : (l : Found) → held_post n e.queue.held ≡ l → Is (Retract n) (retract_step p e l)
      go none k = absurd (true≢false (sym (ap missing k) ∙ (not_holding _ 13 _ j).0))
      go (some x) k =
          let d = can_remove p S e.queue i.machine.waiting i.machine.states i.ok neat x (post_held n e.queue.held x k) in
          retract j k (subst (Does p (Remove x) e.queue) (does_agree p d.1 neat).0 d.1)

  run_is : (s : ℕ) → judged (checks p e (RunStation s)) ≡ accepted → Is (RunStation s) (run_step p e s (least_unrun s e.queue.held))
  unfolding run_step checks judged
  run_is s j = go (least_unrun s e.queue.held) refl
    where
      go : (l : Found) → least_unrun s e.queue.held ≡ l → Is (RunStation s) (run_step p e s l)
      go none k = absurd (true≢false (sym (ap missing k) ∙ (not_holding _ 14 _ (not_holding _ 9 _ j).1).0))
      go (some x) k =
          let d = can_run p S e posts gone log i x (first_of s x k) in
          run j k (subst (Does p (AddEach (sends_of p (e.queue.states x.target) x)) (running p e.queue x)) (run_queue p S e posts gone log i x (first_of s x k) _ d) d)

  station_is : (s : ℕ) → Is (RunStation s) (station_step p e s)
  unfolding station_step
  station_is s = settled (RunStation s) (run_step p e s (least_unrun s e.queue.held)) (run_is s)

  some_unrun : judged (checks p e RunLowest) ≡ accepted → none_unrun e.queue.held ≡ false
  unfolding checks judged
  some_unrun j = (not_holding _ 14 _ j).0

  -- every call has an answer, and it is the one that is computed
  pub answer_is : (c : Call) → Is c (answer_to p e c)
  unfolding answer_to counting_step commit_step
  answer_is (Post s t kind value) = settled (Post s t kind value) _ (post_is s t kind value)
  answer_is (Retract n) = settled (Retract n) _ (retract_is n)
  answer_is (RunStation s) = station_is s
  answer_is RunLowest =
      settled RunLowest _ (λ j. passed_on p e (lowest_is e.queue.held i.ok.sorted (some_unrun j)) (station_is (lowest_of e.queue.held)))
  answer_is (Commit c output) = settled (Commit c output) _ (λ j. commit j)
  answer_is (Record s) = settled (Record s) _ (λ j. recorded j)

  -- the run events where x is run
  marked_runs : (x : Event) → First x.target x e.queue.held → runs (running p e.queue x).held ≡ suc (runs e.queue.held)
  unfolding running
  marked_runs x f = runs_mark (e.queue.states x.target) f

  -- ---- the literal undone count is the number of undos

  pub post_undone : (s t kind value : ℕ) (m : Matter) (q : Queue) → judged (checks p e (Post s t kind value)) ≡ accepted
      → (d : Does p (Add (post_of e.next s t m)) e.queue q) → undone e.queue.held q.held ≡ undos d
  post_undone s t kind value m q j d = undone_undos d neat (post_fits s t kind value m j)

  pub retract_undone : (x : Event) (q : Queue) (d : Does p (Remove x) e.queue q) → undone e.queue.held q.held ≡ undos d
  retract_undone x q d = undone_undos d neat tt

  pub run_undone : (x : Event) (q : Queue) → First x.target x e.queue.held
      → (d : Does p (AddEach (sends_of p (e.queue.states x.target) x)) (running p e.queue x) q) → undone e.queue.held q.held ≡ undos d
  run_undone x q f d =
      omega (arith, falls, subst (λ r. undone e.queue.held r.held + runs r.held ≡ suc (runs e.queue.held)) (sym (run_queue p S e posts gone log i x f q d)) (undone_run p S i.machine.waiting i.machine.states e.queue x i.ok neat.strict f))
    where
      falls : suc (runs e.queue.held) ≡ undos d + runs q.held
      falls = sym (marked_runs x f) ∙ does_falls d (running_neat p S e posts gone log i x f) (run_fits p S e posts gone log i x f)

-- ---- lists of calls

module _ (p : Plan) (S : InRange p) where
  pub answers_are : (cs : List Call) (e : Engine) (posts : List Event) (gone log : List ℕ) → Inv p e posts gone log
      → Calls p e (answers_to p e cs) (left_by p e cs)
  unfolding answers_to left_by
  answers_are [] e ps gone log i = end
  answers_are (c ∷ cs) e ps gone log i =
      let d = answer_is p S e ps gone log i c in
      next d (answers_are cs (answer_to p e c).engine _ _ _ (call_next p S ps gone log d i).inv)

  pub opened_answers : (setting : Setting) (cs : List Call)
      → Calls p (opened p setting) (answers_to p (opened p setting) cs) (left_by p (opened p setting) cs)
  opened_answers setting cs = answers_are cs (opened p setting) [] [] [] (opened_inv p setting)
