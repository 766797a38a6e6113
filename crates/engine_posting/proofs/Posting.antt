-- An accepted post: its event is added, and the next number is stored.
use mathlib.Core.Path.{◌≡◌, refl, sym, ap, ◌∙◌, subst}
use mathlib.Core.List.{List, ◌∷◌}
use Prim.Native.Nat.{ℕ, suc, ◌+◌, ◌≤◌, ◌<◌}
use native.Mathlib.Omega.{arith}
use native.Mathlib.Numerals.{add-one}
use lib.ListN.{length}
use Rattle.std.specs.Prelude.{Ok}
use Rattle.words.specs.Le.{store_at}
use Rattle.refusal.specs.Tests.{accepted, judged}
use Rattle.line.specs.declared.Event.{Event}
use Rattle.line.specs.declared.Matter.{Matter}
use Rattle.line.specs.Matter.{matter_of}
use Rattle.line.specs.Station.{Plan}
use Rattle.rules.specs.Held.{unrun, Queue, undone}
use Rattle.rules.specs.Undo.{Does, Add}
use Rattle.rules.specs.Engine.{Engine, Post, Posted}
use Rattle.rules.specs.Checks.{checks}
use Rattle.rules.specs.Calls.{post_of, Answers, post, after_post}
use Rattle.rules.specs.Demand.{posts, retracted, logs}
use Rattle.rules.specs.Executable.{adding}
use Rattle.rules.proofs.Undo.Agree as G
use Rattle.rules.proofs.Undo.Agree.{does_agree}
use Rattle.rules.proofs.Undo.Exist.{can_add}
use Rattle.rules.proofs.Undo.Count.{undone_undos, does_falls}
use Rattle.rules.proofs.Calls.Invariant.{post_new}
use Rattle.line.specs.Widths.{EventFits}
use Rattle.line.proofs.Suits.{suits_fit, means_suits}
use Rattle.engine_index.specs.Represents.{cell}
use Rattle.engine_events.specs.Promises.{AfterHeader}
use Rattle.engine_rollback.specs.BetweenSteps.{RollsTo}
use Rattle.engine_rollback.specs.Promises.{Adds}
use Rattle.engine_rollback.proofs.Cells.{held_length}
use Rattle.engine_promises.specs.Represents.{Represents}
use Rattle.engine_promises.specs.Promises.{Becomes, Answered}
use Rattle.engine_posting.specs.declared.NewPost.{NewPost}
use Rattle.engine_posting.specs.Steps.{JudgesPost, AddsPost}
use Rattle.engine_promises.proofs.Invariant.{made, invariant, neat, waiting, mid, reached_next}
use Rattle.engine_promises.proofs.Header.{header_frame, header_word, header_other, header_kept, header_holds, stations_few}
use Rattle.engine_promises.proofs.PostRunChecks.{PostPasses, post_passes}
use Rattle.engine_promises.proofs.NewEvents.{as_new}

-- ---- an accepted post

module _ {p : Plan} {e : Engine} {xs : List ℕ} (R : Represents p e xs) (s t kind value : ℕ) (a : judged (checks p e (Post s t kind value)) ≡ accepted)
    (m : Matter) (k : matter_of p.count kind value ≡ Ok m) {node j : ℕ} {ys : List ℕ} (F : AfterHeader xs ys)
    (D : Adds p.count e.setting.capacity xs (post_of e.next s t m) node j ys) where
  passes : PostPasses p e s t
  passes = post_passes p e s t kind value a

  x : Event
  x = post_of e.next s t m

  inside : x.target < p.count
  unfolding x post_of
  inside = passes.inside

  new : G.New x e.queue.held
  unfolding x post_of
  new = post_new p R.range e (posts p 0 (made R)) (retracted (made R)) (logs (made R)) (invariant R) x refl refl

  fits : EventFits x
  unfolding x post_of
  fits = record {
    time = omega (arith, passes.in_time);
    number = omega (arith, passes.numbered);
    matter = suits_fit p.count m (stations_few R) (means_suits p.count kind value m k);
    target = omega (arith, passes.inside, stations_few R);
    source = omega arith;
  }

  left : Queue
  left = adding p e.queue x

  does : Does p (Add x) e.queue left
  unfolding left
  does =
      let d = can_add p R.range e.queue (waiting R) (invariant R).machine.states (invariant R).ok (neat R) x in
      subst (Does p (Add x) e.queue) (does_agree p d.1 (neat R) inside new).0 d.1

  place : length R.cells < e.setting.capacity
  place = omega (arith, passes.place, held_length R.cells, ap length R.holds.stores.held)

  comes : RollsTo p e.setting p.count e.setting.capacity e.now j e.queue ys left (cell node (unrun x) ∷ R.cells)
  unfolding x left post_of
  comes =
      D p e.setting e.now e.queue R.cells (waiting R) (invariant R).machine.states (mid R) place fits inside passes.due passes.in_time (as_new x e.queue.held new)

  count : undone e.queue.held left.held ≡ j
  count = omega (arith, undone_undos does (neat R) (inside, new), does_falls does (neat R) (inside, new), comes.undone)

  abbrev then : Engine
  then = after_post e left

  answers : Answers p e (Post s t kind value) (Posted e.next j) then
  unfolding x
  answers =
      subst (λ (u : ℕ). Answers p e (Post s t kind value) (Posted e.next u) then) count
      (post a k does)

  long : 64 ≤ length ys
  long = omega (arith, F.size, R.holds.stores.long)

  pub posted_so : Becomes p e (Post s t kind value) (Posted e.next j) (store_at 8 24 (suc e.next) ys)
  posted_so = record {
    after = then;
    answers = answers;
    represents = record {
      range = R.range;
      reached = reached_next R.reached answers refl;
      stations = header_other 3 0 (suc e.next) ys (omega arith) ∙ header_kept F 0 (omega arith) ∙ R.stations;
      capacity = header_other 3 1 (suc e.next) ys (omega arith) ∙ header_kept F 1 (omega arith) ∙ R.capacity;
      now = header_other 3 2 (suc e.next) ys (omega arith) ∙ header_kept F 2 (omega arith) ∙ R.now;
      next = header_word 3 (suc e.next) ys (omega arith) long (omega (arith, passes.numbered));
      cells = comes.becomes.after;
      holds = header_holds (header_frame 3 (suc e.next) ys (omega arith)) comes.becomes.holds;
    };
  }

-- ---- the private step

by_is : {n c m d node u : ℕ} {x y : Event} {xs ys : List ℕ} → m ≡ n → d ≡ c → x ≡ y → Adds n c xs x node u ys → Adds m d xs y node u ys
by_is {n} {c} {m} {d} {node} {u} {x} {y} {xs} {ys} a b q D =
    subst (λ (v : Event). Adds m d xs v node u ys) q
    (subst (λ (i : ℕ). Adds i d xs x node u ys) (sym a) (subst (λ (i : ℕ). Adds n i xs x node u ys) (sym b) D))

pub added_post : {n c : ℕ} {x : Event} {xs ys zs : List ℕ} {node u : ℕ} → AfterHeader xs ys → Adds n c xs x node u ys → zs ≡ store_at 8 24 (x.number + 1) ys
    → AddsPost n c x xs u zs
unfolding post_of
added_post {n} {c} {x} {xs} {ys} {zs} {node} {u} F D y p e s t kind value R a B =
    let D' : Adds p.count e.setting.capacity xs (post_of e.next s t B.matter) node u ys = by_is B.stations B.capacity B.is D in
    let q : x.number ≡ e.next = ap (λ (v : Event). v.number) B.is in
    rw (y, q, add-one) (posted_so R s t kind value a B.matter B.means F D')

-- ---- the call

pub post_done : {s t kind value : ℕ} {xs : List ℕ} {f : NewPost} → JudgesPost s t kind value xs (Ok f) → {u : ℕ} {ys : List ℕ} → AddsPost f.n f.c f.event xs u ys
    → Answered (Post s t kind value) (Posted f.event.number u) xs ys
unfolding post_of
post_done {s} {t} {kind} {value} {xs} {f} J {u} {ys} D = record {
  refusal = λ k z. let y : ◌≡◌ {A = ℕ} 0 1 = cc in absurd (omega arith);
  answer = λ p e R.
      let B = J.found f refl p e R in
      let i : f.event.number ≡ e.next = ap (λ (v : Event). v.number) B.is in
      rw i (D p e s t kind value R (J.number.says p e R) B);
}
