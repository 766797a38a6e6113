-- Every call, refused or not, keeps the invariant, with the posts, the retracted numbers, the commit time and the log that it adds.
use mathlib.Core.Path.{◌≡◌, refl, sym, ap, ◌∙◌, subst}
use mathlib.Core.Logic.{◌⊎◌, inl, inr}
use mathlib.Core.Bool.{false, cond}
use mathlib.Core.List.{List, [], ◌∷◌, ◌++◌, append-nil, Memᴰ}
use Prim.Native.Nat.{ℕ, suc, ◌+◌, ◌*◌, ◌≤◌, ◌<◌}
use native.Mathlib.Nat.{le_refl}
use native.Mathlib.Omega.{arith}
use lib.Dec.{ltb, leb, nleb→lt, nltb→le}
use lib.ListN.{length, drop}
use Rattle.refusal.specs.Tests.{horizon, accepted, judged}
use Rattle.refusal.proofs.CheckingOrder.{not_holding}
use Rattle.line.specs.declared.Event.{Event}
use Rattle.line.specs.declared.Matter.{Matter}
use Rattle.line.specs.declared.State.{State}
use Rattle.line.specs.Event.{posted}
use Rattle.line.specs.Matter.{Suits}
use Rattle.line.specs.Station.{Plan, InRange, initial, run_event}
use Rattle.line.specs.Order.{Differ, All}
use Rattle.line.proofs.Order.{differ_number}
use Rattle.line.proofs.All.{all_map, all_snoc}
use Rattle.line.proofs.Sends.{Good, event_good}
use Rattle.line.proofs.Suits.{means_suits}
use Rattle.rules.specs.Held.{Queue, some, least_unrun, held_post, unrun_before, logged, kept}
use Rattle.rules.specs.Undo.{Does, Remove, Add, AddEach}
use Rattle.rules.specs.Engine.{Engine, Call, Post, Commit, Answer}
use Rattle.rules.specs.Checks.{checks}
use Rattle.entry.specs.Entry.{entries}
use Rattle.rules.specs.Calls.{post_of, with, running, committed, Answers, refuse, post, retract, run, lowest, lowest_refused, commit, recorded, after_post, at_commit}
use Rattle.rules.specs.Demand.{is_refused, post_in, named_in, without, time_in, log_in}
use Rattle.rules.specs.Executable as F
use Rattle.rules.specs.Executable.{add_all, run_least}
use Rattle.rules.specs.Replay.{insert_sorted, insert_all_sorted, Fresh, Replayed, Neat}
use Rattle.rules.proofs.Machine.Sorted.{sorted_start, SortedRuns}
use Rattle.line.proofs.Members.{all_in, all_append}
use Rattle.rules.proofs.Replay.Replay.{sends_of, after_of, fresh_above, sends_later}
use Rattle.rules.proofs.Replay.Mark.{First, first_target, first_small}
use Rattle.rules.proofs.Undo.Cascade.{add_after, remove_after, run_ok}
use Rattle.rules.proofs.Calls.Commit.{Committed as Logged, commit_log}
use Rattle.rules.proofs.Machine.Feed.{Inside, all_insert_all, also_waiting, waiting_for, runs_insert, runs_uninsert, runs_trans}
use Rattle.rules.proofs.Replay.Neat.{mark_neat, mark_each}
use Rattle.rules.proofs.Undo.Agree.{does_agree}
use Rattle.rules.proofs.Undo.Exist.{can_add_each}
use Rattle.rules.proofs.Undo.RunFirst.{on, does_on}
use Rattle.rules.proofs.Undo.Count.{Feasible}
use Rattle.entry.proofs.Entries.{entries_append, entries_first}
use Rattle.rules.proofs.Calls.Posts.{IsPost, numbered_snoc, insert_all_snoc, without_all, without_append, without_snoc, without_insert, without_numbered}
use Rattle.rules.proofs.Calls.Invariant.{Inv, held_post_lem, least_first, fed_posts, fed_inside, start_inside, held_known, held_late, held_neat, post_new, sends_new}

-- ---- what an accepted call has passed

pub lt_of : (m n : ℕ) → leb n m ≡ false → m < n
lt_of m n e = nleb→lt n m (rw e tt)

pub le_of : (m n : ℕ) → ltb n m ≡ false → m ≤ n
le_of m n e = nltb→le n m (rw e tt)

pub post_passed : (p : Plan) (e : Engine) (s t kind value : ℕ) → judged (checks p e (Post s t kind value)) ≡ accepted
    → (s < p.count) × (t ≤ horizon) × (e.now ≤ t)
unfolding checks judged
post_passed p e s t kind value j =
    let a = not_holding _ 9 _ j in
    let b = not_holding _ 10 _ a.1 in
    let c = not_holding _ 11 _ b.1 in
    let d = not_holding _ 12 _ c.1 in
    (lt_of s p.count a.0, le_of t horizon c.0, le_of e.now t d.0)

pub commit_passed : (p : Plan) (e : Engine) (c : ℕ) (output : List ℕ) → judged (checks p e (Commit c output)) ≡ accepted
    → (e.now ≤ c) × (unrun_before c e.queue.held ≡ false)
unfolding checks judged
commit_passed p e c output j =
    let a = not_holding _ 11 _ j in
    let b = not_holding _ 12 _ a.1 in
    let d = not_holding _ 15 _ b.1 in
    (le_of e.now c b.0, d.0)

-- ---- what a call and its answer add

pub record Next (p : Plan) (e f : Engine) (c : Call) (a : Answer) (posts : List Event) (gone log : List ℕ) : Type 0 where
  pub inv : Inv p f (posts ++ cond (is_refused a) [] (post_in p e.next c)) (gone ++ cond (is_refused a) [] (named_in c)) (log ++ log_in a)
  pub number : f.next ≡ e.next + length (cond (is_refused a) [] (post_in p e.next c))
  pub time : f.now ≡ cond (is_refused a) e.now (time_in e.now c)

module _ (p : Plan) (S : InRange p) where
  module _ (e : Engine) (posts : List Event) (gone log : List ℕ) (i : Inv p e posts gone log) (x : Event) (f : First x.target x e.queue.held) where
    pub run_inside : x.target < p.count
    run_inside = first_small p S x.target x i.machine.waiting i.machine.states e.queue.states f i.ok.replay

    pub run_good : Good p.count x.target x.time (e.queue.states x.target).sent (run_event p (e.queue.states x.target) x)
    run_good = event_good p S (e.queue.states x.target) x run_inside

    -- the sends of a run can be added where its event is run
    pub run_fits : Feasible p (AddEach (sends_of p (e.queue.states x.target) x)) (running p e.queue x)
    unfolding running
    run_fits = (
      all_map (λ y w. w.inside) ys run_good.each,
      all_map (λ y w. mark_each (Differ y) (e.queue.states x.target) f w) ys (sends_new p S e posts gone log i x run_inside),
      run_good.distinct,
    )
      where
        ys : List Event
        ys = sends_of p (e.queue.states x.target) x

    pub running_neat : Neat p (running p e.queue x).held
    unfolding running
    running_neat = mark_neat p (e.queue.states x.target) f (held_neat p S e posts gone log i)

    -- the sends can be added before the event is run, and then where it is run
    pub sends_first : (r : Queue) × Does p (AddEach (sends_of p (e.queue.states x.target) x)) e.queue r
    sends_first =
        can_add_each p S ys e.queue i.machine.waiting i.machine.states i.ok (held_neat p S e posts gone log i)
        (all_map (λ y w. w.inside) ys run_good.each) fresh (sends_new p S e posts gone log i x run_inside) run_good.distinct
      where
        ys : List Event
        ys = sends_of p (e.queue.states x.target) x

        fresh : All (λ y. Fresh p y e.queue.held) ys
        fresh =
            all_map
            (λ y w. fresh_above p S y i.machine.waiting i.machine.states e.queue.states e.queue.held i.ok.replay (λ _. rw w.source_is w.from))
            ys run_good.each

    abbrev b : State
    b = e.queue.states x.target

    abbrev after_run : Queue
    after_run = on p S x.target x b (after_of p b x) sends_first.0

    pub can_run : Does p (AddEach (sends_of p b x)) (running p e.queue x) after_run
    unfolding running
    can_run =
        (does_on p S x.target x b (after_of p b x) sends_first.1
        (sends_later p S b x run_inside, all_map (λ y w. w.inside) (sends_of p b x) run_good.each, sends_new p S e posts gone log i x run_inside, run_good.distinct) (held_neat p S e posts gone log i) f).0

    -- the queue after a run: there is one
    pub run_queue : (q : Queue) → Does p (AddEach (sends_of p b x)) (running p e.queue x) q → q ≡ run_least p e.queue x
    unfolding run_least
    run_queue q d =
        one d ∙ sym (one can_run) ∙ ap (on p S x.target x b (after_of p b x)) (does_agree p sends_first.1 (held_neat p S e posts gone log i) (all_map (λ y w. w.inside) (sends_of p b x) run_good.each) (sends_new p S e posts gone log i x run_inside) run_good.distinct).0
      where
        one : {r : Queue} → Does p (AddEach (sends_of p b x)) (running p e.queue x) r → r ≡ add_all p (sends_of p b x) (running p e.queue x)
        one c = (does_agree p c running_neat run_fits.0 run_fits.1 run_fits.2).0

  module _ (e : Engine) (posts : List Event) (gone log : List ℕ) (i : Inv p e posts gone log) where
    same_inv : Inv p e (posts ++ []) (gone ++ []) (log ++ [])
    same_inv = rw (append-nil posts, append-nil gone, append-nil log) i

    post_inv : (s t : ℕ) (m : Matter) (q : Queue) → s < p.count → t ≤ horizon → e.now ≤ t → Suits p.count m
        → Does p (Add (post_of e.next s t m)) e.queue q
        → Inv p (after_post e q) (posts ++ (post_of e.next s t m ∷ [])) (gone ++ []) (log ++ [])
    unfolding post_of sorted_start
    post_inv s t m q h timely l suits d = rw (append-nil gone, append-nil log) (record {
      machine = also_waiting x i.machine;
      steps =
          subst (λ ws. SortedRuns p e.now (record { waiting = ws; states = initial p; log = [] }) (also_waiting x i.machine))
          (sym (ap (λ xs. insert_all_sorted xs []) (without_snoc gone posts x i.passed) ∙ insert_all_snoc (without gone posts) x [] differs))
          (runs_insert p S x big l i.steps (start_inside p S e posts gone log i));
      log_is = i.log_is;
      ok =
          subst (Replayed p (insert_sorted x i.machine.waiting) i.machine.states) (sym agrees)
          (add_after p S i.machine.waiting i.machine.states x e.queue h fresh i.ok).ok;
      are_posts =
          all_snoc (IsPost p (suc e.next)) posts x
          (all_map (λ y k. record { timely = k.timely; inside = k.inside; outer = k.outer; numbered = omega (arith, k.numbered); suits = k.suits }) posts i.are_posts)
          (record { timely = timely; inside = h; outer = refl; numbered = le_refl _; suits = suits });
      numbered = numbered_snoc posts x (all_map (λ y k. omega (arith, k.numbered)) posts i.are_posts) i.numbered;
      passed = all_map (λ n k. omega arith) gone i.passed;
    })
      where
        x : Event
        x = record { time = t; target = s; source = posted; number = e.next; matter = m }

        big : p.count ≤ posted
        big = omega (arith, S.most)

        differs : All (Differ x) (without gone posts)
        differs = all_map (λ y k. differ_number x y (omega (arith, k.numbered))) (without gone posts) (fed_posts p S e posts gone log i)

        fresh : Fresh p x e.queue.held
        fresh =
            fresh_above p S x i.machine.waiting i.machine.states e.queue.states e.queue.held i.ok.replay
            (λ k. absurd (omega (arith, k, big)))

        agrees : q ≡ F.adding p e.queue x
        agrees = (does_agree p d (held_neat p S e posts gone log i) h (post_new p S e posts gone log i x refl refl)).0

    retract_inv : (n : ℕ) (x : Event) (q : Queue) → held_post n e.queue.held ≡ some x → Does p (Remove x) e.queue q
        → Inv p (with e q) (posts ++ []) (gone ++ (n ∷ [])) (log ++ [])
    unfolding with sorted_start
    retract_inv n x q k d = rw (append-nil posts, append-nil log) (record {
      machine = waiting_for u.0 i.machine;
      steps = rw (without_append gone (n ∷ []) posts) u.2;
      log_is = i.log_is;
      ok =
          subst (Replayed p u.0 i.machine.states) (sym (does_agree p d (held_neat p S e posts gone log i)).0)
          (remove_after p S u.0 i.machine.states x e.queue fresh (subst (λ ws. Replayed p ws i.machine.states e.queue) u.1 i.ok)).ok;
      are_posts = i.are_posts;
      numbered = i.numbered;
      passed = all_append (λ j. j < e.next) gone (n ∷ []) i.passed (subst (λ j. j < e.next) f.2 is_post.numbered, tt);
    })
      where
        f : ((x.target < p.count) × ((x.source < p.count) ⊎ Memᴰ x (without gone posts))) × (x.source ≡ posted) × (x.number ≡ n)
        f =
            held_post_lem (λ y. (y.target < p.count) × ((y.source < p.count) ⊎ Memᴰ y (without gone posts))) n e.queue.held x k
            (held_known p S e posts gone log i)

        mem : Memᴰ x (without gone posts)
        mem = go f.0.1
          where
            go : (x.source < p.count) ⊎ Memᴰ x (without gone posts) → Memᴰ x (without gone posts)
            go (inl l) = absurd (omega (arith, l, f.1, S.most))
            go (inr m) = m

        is_post : IsPost p e.next x
        is_post = all_in (IsPost p e.next) mem (fed_posts p S e posts gone log i)

        big : p.count ≤ x.source
        big = omega (arith, f.1, S.most)

        late : e.now ≤ x.time
        late = (held_post_lem (λ y. e.now ≤ y.time) n e.queue.held x k (held_late p S e posts gone log i)).0

        u : (us : List Event) × (i.machine.waiting ≡ insert_sorted x us) × SortedRuns p e.now (record { waiting = insert_all_sorted (without (n ∷ []) (without gone posts)) []; states = initial p; log = [] }) (waiting_for us i.machine)
        u =
            runs_uninsert p S x big late (insert_all_sorted (without (n ∷ []) (without gone posts)) []) i.steps (without_insert n x (without gone posts) [] mem f.2 (without_numbered gone posts i.numbered))
            (all_insert_all (Inside p S) (without (n ∷ []) (without gone posts)) [] (without_all (Inside p S) (n ∷ []) (without gone posts) (fed_inside p S e posts gone log i)) tt)

        fresh : Fresh p x e.queue.held
        fresh =
            fresh_above p S x i.machine.waiting i.machine.states e.queue.states e.queue.held i.ok.replay
            (λ j. absurd (omega (arith, j, big)))

    run_inv : (s : ℕ) (x : Event) (q : Queue) → least_unrun s e.queue.held ≡ some x
        → Does p (AddEach (sends_of p (e.queue.states x.target) x)) (running p e.queue x) q
        → Inv p (with e q) (posts ++ []) (gone ++ []) (log ++ [])
    unfolding with
    run_inv s x q k d = rw (append-nil posts, append-nil gone, append-nil log) (record {
      machine = i.machine;
      steps = i.steps;
      log_is = i.log_is;
      ok =
          subst (Replayed p i.machine.waiting i.machine.states) (sym (run_queue e posts gone log i x f q d))
          (run_ok p S i.machine.waiting i.machine.states e.queue x f i.ok);
      are_posts = i.are_posts;
      numbered = i.numbered;
      passed = i.passed;
    })
      where
        g : First s x e.queue.held
        g = least_first s e.queue.held x k

        f : First x.target x e.queue.held
        f = subst (λ t. First t x e.queue.held) (sym (first_target g)) g

    commit_inv : (c : ℕ) (output : List ℕ) → e.now ≤ c → unrun_before c e.queue.held ≡ false
        → Inv p (at_commit e c) (posts ++ []) (gone ++ [])
        (log ++ log_in (committed (logged c e.queue.held) output))
    unfolding log_in
    commit_inv c output l u =
        rw (append-nil posts, append-nil gone, entries_first (logged c e.queue.held) (drop (24 * length (logged c e.queue.held)) output))
        (record {
          machine = record { waiting = d.waiting; states = d.states; log = i.machine.log ++ logged c e.queue.held };
          steps = runs_trans i.steps l d.runs;
          log_is = entries_append i.machine.log (logged c e.queue.held) ∙ ap (λ b. b ++ entries (logged c e.queue.held)) i.log_is;
          ok = record { replay = d.replay; sorted = d.sorted };
          are_posts = i.are_posts;
          numbered = i.numbered;
          passed = i.passed;
        })
      where
        d : Logged p c i.machine.waiting i.machine.states i.machine.log e.queue.states (logged c e.queue.held) (kept c e.queue.held)
        d = commit_log p c i.machine.waiting i.machine.states i.machine.log e.queue.states e.queue.held i.ok.replay i.ok.sorted u

  pub call_next : {e f : Engine} {c : Call} {a : Answer} (posts : List Event) (gone log : List ℕ) → Answers p e c a f → Inv p e posts gone log
      → Next p e f c a posts gone log
  unfolding log_in post_in named_in time_in with
  call_next posts gone log (refuse {e = e} j) i = record { inv = same_inv e posts gone log i; number = omega arith; time = refl }
  call_next posts gone log (post {e = e} {s = s} {t = t} {kind = kind} {value = value} {m = m} {q = q} j k d) i =
      let h = post_passed p e s t kind value j in
      record { inv = rw k (post_inv e posts gone log i s t m q h.0 h.1 h.2 (means_suits p.count kind value m k) d); number = rw k (omega arith); time = refl }
  call_next posts gone log (retract {e = e} {n = n} {x = x} {q = q} j k d) i = record { inv = retract_inv e posts gone log i n x q k d; number = omega arith; time = refl }
  call_next posts gone log (run {e = e} {s = s} {x = x} {q = q} j k d) i = record { inv = run_inv e posts gone log i s x q k d; number = omega arith; time = refl }
  call_next posts gone log (lowest l d) i = let n = call_next posts gone log d i in record { inv = n.inv; number = n.number; time = n.time }
  call_next posts gone log (lowest_refused l d) i = let n = call_next posts gone log d i in record { inv = n.inv; number = n.number; time = n.time }
  call_next posts gone log (commit {e = e} {c = c} {output = output} j) i =
      let h = commit_passed p e c output j in
      record { inv = commit_inv e posts gone log i c output h.0 h.1; number = omega arith; time = refl }
  call_next posts gone log (recorded {e = e} j) i = record { inv = same_inv e posts gone log i; number = omega arith; time = refl }
