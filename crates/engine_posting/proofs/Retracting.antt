-- A retract: refused where no held post has the number, and else the only one with it is removed.
use mathlib.Core.Path.{◌≡◌, refl, sym, ◌∙◌, subst}
use mathlib.Core.List.{List}
use Prim.Native.Nat.{ℕ}
use native.Mathlib.Omega.{arith}
use Rattle.std.specs.Prelude.{Option, Some, ok_or, Ok, Err}
use Rattle.words.specs.Le.{load_at}
use Rattle.refusal.specs.declared.Refusal.{Refusal}
use Rattle.refusal.specs.declared.Refusal.TheVariants.{Post}
use Rattle.refusal.specs.Tests.{accepted, refused, or_next, judged}
use Rattle.line.specs.declared.Event.{Event}
use Rattle.line.specs.Event.{posted}
use Rattle.line.specs.Station.{Plan}
use Rattle.rules.specs.Held.{Held, unrun, ran, event, In, Queue, Found, some, undone, held_post}
use Rattle.rules.specs.Undo.{Does, Remove}
use Rattle.rules.specs.Engine.{Engine, Retract, Retracted}
use Rattle.rules.specs.Checks.{checks}
use Rattle.rules.specs.Calls.{with, Answers, retract}
use Rattle.rules.specs.Demand.{posts, retracted, logs}
use Rattle.rules.specs.Executable.{removing}
use Rattle.rules.specs.Replay.{insert_sorted, Replayed}
use Rattle.rules.proofs.Undo.Exist.{IsHeld, is_unrun, is_run, can_remove}
use Rattle.rules.proofs.Undo.Agree.{does_agree}
use Rattle.rules.proofs.Undo.Count.{undone_undos, does_falls}
use Rattle.engine_index.specs.Represents.{cell}
use Rattle.engine_events.specs.Represents.{Has}
use Rattle.engine_events.specs.Promises.{AfterHeader}
use Rattle.engine_moves.proofs.Cells.Split.{held_in}
use Rattle.engine_rollback.specs.BetweenSteps.{Mid, RollsTo}
use Rattle.engine_rollback.specs.Promises.{Removes}
use Rattle.engine_promises.specs.Represents.{Represents}
use Rattle.engine_promises.specs.Steps.{at_most}
use Rattle.engine_posting.specs.declared.HeldPost.{HeldPost}
use Rattle.engine_posting.specs.Steps.{FindsPost, JudgesRetract}
use Rattle.engine_promises.specs.Promises.{Becomes, Answered}
use Rattle.engine_promises.proofs.Invariant.{made, invariant, neat, waiting, reached_next}
use Rattle.engine_promises.proofs.Header.{header_kept, fits_read}
use Rattle.engine_promises.proofs.Refused.{judges_refusal, ok_or_some, ok_or_none}
use Rattle.engine_posting.proofs.OnePost.{the_post, waits_inserted, post_fresh}

is_held : (h : Held) (hs : List Held) → In h hs → IsHeld (event h) hs
is_held (unrun x) hs m = is_unrun m
is_held (ran x b) hs m = is_run b m

module _ {p : Plan} {e : Engine} {xs : List ℕ} (R : Represents p e xs) (number : ℕ) where
  none_refused : held_post number e.queue.held ≡ Found.none → judged (checks p e (Retract number)) ≡ refused 13
  unfolding checks judged or_next
  none_refused z = rw z

  some_accepted : {x : Event} → held_post number e.queue.held ≡ some x → judged (checks p e (Retract number)) ≡ accepted
  unfolding checks judged or_next
  some_accepted z = rw z

  held_at : {h : Held} {x : ℕ} → Has (cell x h) R.cells → In h e.queue.held
  held_at {h} {x} m = rw (sym R.holds.stores.held) (held_in R.cells (cell x h) m)

  -- the held post of that number
  the_held : (h : Held) {x : ℕ} → Has (cell x h) R.cells → (event h).source ≡ posted → (event h).number ≡ number → held_post number e.queue.held ≡ some (event h)
  the_held h m s l = the_post p R.range e (posts p 0 (made R)) (retracted (made R)) (logs (made R)) (invariant R) h (held_at m) s number l

  -- the post of node x is removed
  module _ (h : Held) {x k : ℕ} {ys : List ℕ} (m : Has (cell x h) R.cells) (s : (event h).source ≡ posted) (l : (event h).number ≡ number)
      (F : AfterHeader xs ys) (D : Removes p.count e.setting.capacity xs x k ys) where
    held : In h e.queue.held
    held = held_at m

    the : held_post number e.queue.held ≡ some (event h)
    the = the_held h m s l

    abbrev left : Queue
    left = removing p e.queue (event h)

    does : Does p (Remove (event h)) e.queue left
    does =
        let i = is_held h e.queue.held held in
        let d = can_remove p R.range e.queue (waiting R) (invariant R).machine.states (invariant R).ok (neat R) (event h) i in
        subst (Does p (Remove (event h)) e.queue) (does_agree p d.1 (neat R)).0 d.1

    comes : RollsTo p e.setting p.count e.setting.capacity e.now k e.queue ys left R.cells
    comes =
        let w = waits_inserted p R.range e (posts p 0 (made R)) (retracted (made R)) (logs (made R)) (invariant R) h held s in
        let M : Mid p e.setting p.count e.setting.capacity e.now xs e.queue R.cells (insert_sorted (event h) w.0) (invariant R).machine.states =
        record {
          range = R.range;
          holds = R.holds;
          ok = subst (λ (ws : List Event). Replayed p ws (invariant R).machine.states e.queue) w.1 (invariant R).ok;
          neat = neat R;
        } in
        D p e.setting e.now e.queue R.cells w.0 (invariant R).machine.states h M m
        (post_fresh p R.range e (posts p 0 (made R)) (retracted (made R)) (logs (made R)) (invariant R) h held s)

    count : undone e.queue.held left.held ≡ k
    count = omega (arith, undone_undos does (neat R) tt, does_falls does (neat R) tt, comes.undone)

    answers : Answers p e (Retract number) (Retracted k) (with e left)
    answers = subst (λ (u : ℕ). Answers p e (Retract number) (Retracted u) (with e left)) count (retract (some_accepted the) the does)

    retract_some : Becomes p e (Retract number) (Retracted k) ys
    unfolding with
    retract_some = record {
      after = with e left;
      answers = answers;
      represents = record {
        range = R.range;
        reached = reached_next R.reached answers refl;
        stations = header_kept F 0 (omega arith) ∙ R.stations;
        capacity = header_kept F 1 (omega arith) ∙ R.capacity;
        now = header_kept F 2 (omega arith) ∙ R.now;
        next = header_kept F 3 (omega arith) ∙ R.next;
        cells = comes.becomes.after;
        holds = comes.becomes.holds;
      };
    }

  -- as the call finds it
  retract_found : {n c x k : ℕ} {ys : List ℕ} → p.count ≡ n → e.setting.capacity ≡ c → FindsPost n c number xs (Some x) → AfterHeader xs ys
      → Removes n c xs x k ys
      → Becomes p e (Retract number) (Retracted k) ys
  retract_found {n} {c} {x} {k} {ys} a b f F D =
      let g : FindsPost p.count e.setting.capacity number xs (Some x) = rw (a, b) f in
      let D' : Removes p.count e.setting.capacity xs x k ys = rw (a, b) D in
      let r = g.some p e.setting e.now e.queue R.cells R.holds x refl in
      retract_some r.0 r.1 r.2 r.3 F D'

-- ---- judging

module _ {xs : List ℕ} {n c number : ℕ} (k : n ≡ at_most 256 (load_at 8 0 xs)) (m : c ≡ at_most 4096 (load_at 8 8 xs)) where
  finds : {r : Option ℕ} → FindsPost n c number xs r → {p : Plan} {e : Engine} → Represents p e xs → FindsPost p.count e.setting.capacity number xs r
  finds f R = let w = fits_read R k m in rw (w.0, w.1) f

  pub unknown_post : {r : Option ℕ} {e : Refusal} → FindsPost n c number xs r → ok_or r Post ≡ Err e → JudgesRetract number xs (Err e)
  unknown_post {r} f q =
      let z = ok_or_none r Post q in
      rw z.1
      (judges_refusal (Retract number) Post
      (record { says = λ p e R. none_refused R number ((finds f R).none p e.setting e.now e.queue R.cells R.holds z.0) }))

  pub known_post : {r : Option ℕ} {x : ℕ} → FindsPost n c number xs r → ok_or r Post ≡ Ok x
      → JudgesRetract number xs (Ok (record { n = n; c = c; node = x }))
  known_post {r} {x} f q =
      let i = ok_or_some r Post q in
      record {
        number = record {
          says = λ p e R.
              let g = (finds f R).some p e.setting e.now e.queue R.cells R.holds x i in
              some_accepted R number (the_held R number g.0 g.1 g.2 g.3);
        };
        found = λ h q.
            let z : ◌≡◌ {A = HeldPost} (record { n = n; c = c; node = x }) h = cc in
            rw (← z) (λ p e R. let w = fits_read R k m in (w.0, w.1), rw i at f);
      }

-- ---- the call

pub retract_done : {number : ℕ} {xs : List ℕ} {f : HeldPost} → JudgesRetract number xs (Ok f) → {u : ℕ} {ys : List ℕ} → AfterHeader xs ys → Removes f.n f.c xs f.node u ys
    → Answered (Retract number) (Retracted u) xs ys
retract_done {number} {f = f} J F D = record {
  refusal = λ i z. let y : ◌≡◌ {A = ℕ} 0 1 = cc in absurd (omega arith);
  answer = λ p e R.
      let g = J.found f refl in
      let w = g.0 p e R in
      retract_found R number w.0 w.1 g.1 F D;
}
