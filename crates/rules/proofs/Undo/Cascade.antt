-- Undoing, removing and adding keep the invariant, whatever they call on.
use mathlib.Core.Path.{◌≡◌, refl, sym, ◌∙◌, subst}
use mathlib.Core.Logic.{◌≢◌}
use mathlib.Core.Bool.{Bool, true, false, cond}
use mathlib.Core.List.{List, [], ◌∷◌}
use Prim.Native.Nat.{ℕ, zero, suc, ◌≤◌, ◌<◌}
use native.Mathlib.Nat.{le_refl, le_trans}
use native.Mathlib.Omega.{arith}
use Rattle.line.specs.declared.Event.{Event}
use Rattle.rules.specs.Replay.{insert_sorted, insert_all_sorted, EachRun, NoRun, Replay, InOrder, Clear, Fresh, Blocked, Replayed}
use Rattle.rules.proofs.Machine.Insert.{insert_all}
use Rattle.rules.proofs.Update.{update_same, update_other}
use Rattle.line.specs.Station.{Plan, InRange, States, update, run_event}
use Rattle.line.specs.declared.State.{State}
use Rattle.rules.specs.Held.{Held, In, unrun, ran, event, Queue, same, delete, place}
use Rattle.rules.specs.Executable.{Search, nothing, found, latest, runs, remove_each, undo_found, undo_within, undo_from, removing, adding, add_all, run_least}
use Rattle.line.specs.Order.{Lt, Ge, Differ, All}
use Rattle.line.proofs.Order.{co, asym, clash, lt_ge, ge_lt}
use Rattle.line.proofs.All.{all_map, Distinct}
use Rattle.line.proofs.Sends.{Sent, Good, event_good}
use Rattle.rules.proofs.Replay.Replay.{sends_of, after_of, sends_later, fresh_above}
use Rattle.rules.proofs.Replay.Unmark.{Latest, View, latest_view, found_all, found_sorted, found_runs, found_target, found_ge, found_small, undo_replay}
use Rattle.rules.proofs.Replay.EntriesKept.{found_stays, delete_stays, place_stays}
use Rattle.rules.proofs.Replay.RunsLeft.{ran_ones, Sub, sub_refl, sub_trans, found_sub, delete_sub, place_sub}
use Rattle.rules.proofs.Replay.Mark.{First, first_held, mark_sorted, mark_replay, first_small}
use Rattle.rules.proofs.Replay.Delete.{delete_all, delete_sorted, delete_runs, delete_replay, same_lt}
use Rattle.rules.proofs.Replay.Place.{place_all, place_sorted, place_runs, place_replay}
use Rattle.rules.proofs.Replay.Unmark as U
use Rattle.rules.proofs.Replay.Mark as C

-- ---- the least unrun event of a station, through the changes

pub replay_blocked : (p : Plan) (ws : List Event) (st cur : States) (h : List Held) → Replay p ws st cur h → Blocked h
replay_blocked p ws st cur [] r = tt
replay_blocked p ws st cur (unrun x ∷ h) r = (r.3, replay_blocked p r.0 st cur h r.4)
replay_blocked p ws st cur (ran x b ∷ h) r = replay_blocked p (insert_all_sorted (sends_of p b x) r.0) (update st x.target (after_of p b x)) cur h r.4

found_elsewhere : {t : ℕ} {x e : Event} {b : State} {h h' : List Held} (s : ℕ) → Latest t x e b h h' → NoRun s h → e.target ≢ s
found_elsewhere s (U.here q g c) n = n.0
found_elsewhere s (U.past_unrun f) n = found_elsewhere s f n
found_elsewhere s (U.past_ran f) n = found_elsewhere s f n.1

-- an undo of an event from x on leaves an unrun event before x, its place and its station
pub found_first : {t s : ℕ} {x e y : Event} {b : State} {h h' : List Held} → Latest t x e b h h' → First s y h → Lt y x → InOrder h → Blocked h
    → First s y h' × (e.target ≢ s)
found_first (U.here {h = h} q g c) (C.past_ran f) l o k = absurd (clash (lt_ge l g) (first_held _ f o.0))
found_first {e = e} {y = y} (U.past_unrun F) (C.here q) l o k = (C.here q, subst (λ t. e.target ≢ t) q (found_elsewhere y.target F k.0))
found_first (U.past_unrun F) (C.past_unrun n f) l o k = let i = found_first F f l o.1 k.1 in (C.past_unrun n i.0, i.1)
found_first (U.past_ran F) (C.past_ran f) l o k = let i = found_first F f l o.1 k in (C.past_ran i.0, i.1)

pub delete_first : {s : ℕ} {y : Event} {h : List Held} (z : Event) → First s y h → Lt y z → First s y (delete z h)
unfolding delete
delete_first z (C.here q) l = rw (same_lt l) (C.here q)
delete_first {s} {y} z (C.past_unrun {y = w} {h = h} n f) l = go (same w z) (delete_first z f l)
  where
    go : (v : Bool) → First s y (delete z h) → First s y (cond v h (unrun w ∷ delete z h))
    go true i = f
    go false i = C.past_unrun n i
delete_first {s} {y} z (C.past_ran {y = w} {a = a} {h = h} f) l = go (same w z) (delete_first z f l)
  where
    go : (v : Bool) → First s y (delete z h) → First s y (cond v h (ran w a ∷ delete z h))
    go true i = f
    go false i = C.past_ran i

pub place_first : {s : ℕ} {y : Event} {h : List Held} (z : Event) → First s y h → Lt y z → InOrder h → First s y (place z h)
unfolding place
place_first z (C.here q) l o = rw l.is (C.here q)
place_first {s} {y} z (C.past_unrun {y = w} {h = h} n f) l o =
    let k : Lt w z = ge_lt (first_held w f o.0) l in
    rw k.is (C.past_unrun n (place_first z f l o.1))
place_first {s} {y} z (C.past_ran {y = w} {a = a} {h = h} f) l o =
    let k : Lt w z = ge_lt (first_held w f o.0) l in
    rw k.is (C.past_ran (place_first z f l o.1))

-- ---- what undoing from x on ensures

-- an unrun event of which B holds stays its station's least, and the station's state stays
abbrev pub Keeps : (Event → Type 0) → Queue → Queue → Type 0
Keeps B q r = (s : ℕ) (y : Event) → B y → First s y q.held → First s y r.held × (r.states s ≡ q.states s)

abbrev pub Below : Event → Event → Type 0
Below x y = Lt y x

-- the queue r that undoing has left of q keeps the invariant, with the waiting events ws
pub record After (p : Plan) (ws : List Event) (st : States) (B : Event → Type 0) (q r : Queue) : Type 0 where
  pub ok : Replayed p ws st r
  pub fewer : runs r.held ≤ runs q.held
  pub fresh : (z : Event) → Fresh p z q.held → Fresh p z r.held
  pub keeps : Keeps B q r
  pub stays : (z : Held) → B (event z) → In z q.held → In z r.held
  pub sub : Sub (ran_ones r.held) (ran_ones q.held)

pub record Undone (p : Plan) (ws : List Event) (st : States) (s : ℕ) (x : Event) (q r : Queue) : Type 0 where
  pub after : After p ws st (Below x) q r
  pub clear : Clear s x r.held

pub no_runs : (Q : Event → State → Type 0) (h : List Held) → runs h ≤ zero → EachRun Q h
unfolding runs
no_runs Q [] l = tt
no_runs Q (unrun x ∷ h) l = no_runs Q h l
no_runs Q (ran x b ∷ h) l = absurd (omega arith)

-- one change after the other
pub after_trans : (p : Plan) (vs ws : List Event) (st : States) (B D : Event → Type 0) (q r u : Queue) → ((y : Event) → D y → B y)
    → After p vs st B q r → After p ws st D r u → After p ws st D q u
after_trans p vs ws st B D q r u i a b = record {
  ok = b.ok;
  fewer = le_trans b.fewer a.fewer;
  fresh = λ z k. b.fresh z (a.fresh z k);
  keeps = λ s y l f. let j = a.keeps s y (i y l) f in let k = b.keeps s y l j.0 in (k.0, k.1 ∙ j.1);
  stays = λ z l m. b.stays z l (a.stays z (i (event z) l) m);
  sub = sub_trans b.sub a.sub;
}

pub same_after : (p : Plan) (ws : List Event) (st : States) (B : Event → Type 0) (q : Queue) → Replayed p ws st q → After p ws st B q q
same_after p ws st B q o = record { ok = o; fewer = le_refl _; fresh = λ z f. f; keeps = λ s y l f. (f, refl); stays = λ z l m. m; sub = sub_refl (ran_ones q.held) }

module _ (p : Plan) (S : InRange p) where
  -- what n undos at most can do
  abbrev pub Within : ℕ → Type 0
  Within n = (q : Queue) (s : ℕ) (x : Event) → runs q.held ≤ n → (ws : List Event) (st : States) → Replayed p ws st q → Undone p ws st s x q (undo_within p n q s x)

  pub drop_after : (ws : List Event) (st : States) (y : Event) (q r : Queue) → Fresh p y q.held → Undone p (insert_sorted y ws) st y.target y q r
      → After p ws st (Below y) q (record { states = r.states; held = delete y r.held })
  drop_after ws st y q r f u = record {
    ok = record {
      replay = delete_replay p S y ws st r.states r.held u.clear (u.after.fresh y f) u.after.ok.replay;
      sorted = delete_sorted y r.held u.after.ok.sorted;
    };
    fewer = le_trans (delete_runs y r.held) u.after.fewer;
    fresh = λ z g. delete_all (λ w b. All (Differ z) (sends_of p b w)) y r.held (u.after.fresh z g);
    keeps = λ s w l g. let k = u.after.keeps s w l g in (delete_first y k.0 l, k.1);
    stays = λ z l m. delete_stays z y r.held l (u.after.stays z l m);
    sub = sub_trans (delete_sub y r.held) u.after.sub;
  }

  pub removal : (n : ℕ) → Within n → (x : Event) (ys : List Event) (q : Queue) → runs q.held ≤ n → (ws : List Event) (st : States)
      → Replayed p (insert_all_sorted ys ws) st q → All (λ y. Fresh p y q.held) ys → All (λ y. Ge y x) ys
      → After p ws st (Below x) q (remove_each (undo_within p n) ys q)
  unfolding remove_each insert_all_sorted
  removal n W x [] q l ws st o f g = same_after p ws st (Below x) q o
  removal n W x (y ∷ ys) q l ws st o f g =
      after_trans p (insert_all_sorted ys ws) ws st (Below y) (Below x) q d (remove_each (undo_within p n) ys d) (λ w k. lt_ge k g.0) a
      (removal n W x ys d (le_trans a.fewer l) ws st a.ok (all_map (λ z k. a.fresh z k) ys f.1) g.1)
    where
      r : Queue
      r = undo_within p n q y.target y

      d : Queue
      d = record { states = r.states; held = delete y r.held }

      a : After p (insert_all_sorted ys ws) st (Below y) q d
      a = drop_after (insert_all_sorted ys ws) st y q r f.0 (W q y.target y l (insert_sorted y (insert_all_sorted ys ws)) st o)

  -- one run event undone
  pub found_after : (q : Queue) (s : ℕ) (x e : Event) (b : State) (h : List Held) (ws : List Event) (st : States) → Replayed p ws st q → Latest s x e b q.held h
      → After p (insert_all_sorted (sends_of p b e) ws) st (Below x) q (record { states = update q.states s b; held = h })
  found_after q s x e b h ws st o v = record {
    ok = record { replay = undo_replay p S s x e b ws st q.states v o.sorted o.replay; sorted = found_sorted v o.sorted };
    fewer = omega (arith, found_runs v);
    fresh = λ z k. found_all (λ w d. All (Differ z) (sends_of p d w)) v k;
    keeps = λ t y k f.
        let i = found_first v f k o.sorted (replay_blocked p ws st q.states q.held o.replay) in
        (i.0, update_other q.states b (λ j. i.1 (found_target v ∙ sym j)));
    stays = λ z l m. found_stays z v l m;
    sub = found_sub v;
  }

  -- its sends are new to what is still run
  pub found_new : (q : Queue) (s : ℕ) (x e : Event) (b : State) (h : List Held) (ws : List Event) (st : States) → Replayed p ws st q
      → Latest s x e b q.held h → All (λ y. Fresh p y h) (sends_of p b e)
  found_new q s x e b h ws st o v = all_map new (sends_of p b e) (event_good p S b e (found_small p S s x e b ws st q.states v o.replay)).each
    where
      r : Replay p (insert_all_sorted (sends_of p b e) ws) st (update q.states s b) h
      r = undo_replay p S s x e b ws st q.states v o.sorted o.replay

      new : (y : Event) → Sent p.count e.target e.time b.sent (after_of p b e).sent y → Fresh p y h
      new y w =
          fresh_above p S y (insert_all_sorted (sends_of p b e) ws) st (update q.states s b) h r
          (λ _. rw (w.source_is, found_target v, update_same q.states s b) w.from)

  pub found_ahead : (q : Queue) (s : ℕ) (x e : Event) (b : State) (h : List Held) (ws : List Event) (st : States) → Replayed p ws st q
      → Latest s x e b q.held h → All (λ y. Ge y x) (sends_of p b e)
  found_ahead q s x e b h ws st o v =
      all_map (λ y k. co (asym k) (found_ge v)) (sends_of p b e) (sends_later p S b e (found_small p S s x e b ws st q.states v o.replay))

  step : (n : ℕ) → Within n → (q : Queue) (s : ℕ) (x : Event) → runs q.held ≤ suc n → (ws : List Event) (st : States) → Replayed p ws st q → (l : Search)
      → View s x q.held l
      → Undone p ws st s x q (undo_found p (undo_within p n) q s x l)
  unfolding undo_found
  step n W q s x l ws st o nothing v = record { after = same_after p ws st (Below x) q o; clear = v }
  step n W q s x l ws st o (found e b h) v = record {
    after =
        after_trans p ws ws st (Below x) (Below x) q q₂ q₃ (λ y k. k)
        (after_trans p (insert_all_sorted ys ws) ws st (Below x) (Below x) q q₁ q₂ (λ y k. k) one a) c.after;
    clear = c.clear;
  }
    where
      ys : List Event
      ys = sends_of p b e

      q₁ : Queue
      q₁ = record { states = update q.states s b; held = h }

      q₂ : Queue
      q₂ = remove_each (undo_within p n) ys q₁

      q₃ : Queue
      q₃ = undo_within p n q₂ s x

      fewer₁ : runs h ≤ n
      fewer₁ = omega (arith, found_runs v, l)

      one : After p (insert_all_sorted ys ws) st (Below x) q q₁
      one = found_after q s x e b h ws st o v

      a : After p ws st (Below x) q₁ q₂
      a = removal n W x ys q₁ fewer₁ ws st one.ok (found_new q s x e b h ws st o v) (found_ahead q s x e b h ws st o v)

      c : Undone p ws st s x q₂ q₃
      c = W q₂ s x (le_trans a.fewer fewer₁) ws st a.ok

  -- undoing from x on, with enough undos allowed
  pub undo_within_lem : (n : ℕ) → Within n
  unfolding undo_within
  undo_within_lem zero q s x l ws st o = record { after = same_after p ws st (Below x) q o; clear = no_runs _ q.held l }
  undo_within_lem (suc n) q s x l ws st o = step n (undo_within_lem n) q s x l ws st o (latest s x q.held) (latest_view s x q.held)

  pub undo_from_lem : (q : Queue) (s : ℕ) (x : Event) (ws : List Event) (st : States) → Replayed p ws st q → Undone p ws st s x q (undo_from p q s x)
  unfolding undo_from
  undo_from_lem q s x ws st o = undo_within_lem (runs q.held) q s x (le_refl _) ws st o

  -- removing a waiting event
  pub remove_after : (ws : List Event) (st : States) (y : Event) (q : Queue) → Fresh p y q.held → Replayed p (insert_sorted y ws) st q
      → After p ws st (Below y) q (removing p q y)
  unfolding removing
  remove_after ws st y q f o = drop_after ws st y q (undo_from p q y.target y) f (undo_from_lem q y.target y (insert_sorted y ws) st o)

  -- adding an event
  pub add_after : (ws : List Event) (st : States) (y : Event) (q : Queue) → y.target < p.count → Fresh p y q.held → Replayed p ws st q
      → After p (insert_sorted y ws) st (Below y) q (adding p q y)
  unfolding adding
  add_after ws st y q t f o = record {
    ok = record {
      replay = place_replay p S y ws st r.states r.held t u.clear (u.after.fresh y f) u.after.ok.sorted u.after.ok.replay;
      sorted = place_sorted y r.held u.after.ok.sorted;
    };
    fewer = le_trans (rw (place_runs y r.held) (le_refl _)) u.after.fewer;
    fresh = λ z g. place_all (λ w b. All (Differ z) (sends_of p b w)) y r.held (u.after.fresh z g);
    keeps = λ s w l g. let k = u.after.keeps s w l g in (place_first y k.0 l u.after.ok.sorted, k.1);
    stays = λ z l m. place_stays z y r.held (u.after.stays z l m);
    sub = rw (place_sub y r.held) u.after.sub;
  }
    where
      r : Queue
      r = undo_from p q y.target y

      u : Undone p ws st y.target y q r
      u = undo_from_lem q y.target y ws st o

  -- adding events in order
  pub add_all_after : (ys : List Event) (ws : List Event) (st : States) (q : Queue) → All (λ y. y.target < p.count) ys
      → All (λ y. Fresh p y q.held) ys → Distinct ys → Replayed p ws st q
      → After p (insert_all_sorted ys ws) st (λ x. All (Lt x) ys) q (add_all p ys q)
  unfolding add_all insert_all_sorted
  add_all_after [] ws st q t f d o = same_after p ws st (λ x. Unit {0}) q o
  add_all_after (y ∷ ys) ws st q t f d o =
      subst (λ l. After p l st (λ x. All (Lt x) (y ∷ ys)) q (add_all p ys r)) (sym (insert_all y ys ws d.0))
      (after_trans p (insert_sorted y ws) (insert_all_sorted ys (insert_sorted y ws)) st (Below y) (λ x. All (Lt x) (y ∷ ys)) q r (add_all p ys r) (λ w k. k.0) a
      (wider (add_all_after ys (insert_sorted y ws) st r t.1 (all_map (λ z k. a.fresh z k) ys f.1) d.1 a.ok)))
    where
      r : Queue
      r = adding p q y

      a : After p (insert_sorted y ws) st (Below y) q r
      a = add_after ws st y q t.0 f.0 o

      wider : After p (insert_all_sorted ys (insert_sorted y ws)) st (λ x. All (Lt x) ys) r (add_all p ys r)
          → After p (insert_all_sorted ys (insert_sorted y ws)) st (λ x. All (Lt x) (y ∷ ys)) r (add_all p ys r)
      wider b = record { ok = b.ok; fewer = b.fewer; fresh = b.fresh; keeps = λ s w l g. b.keeps s w l.1 g; stays = λ z l m. b.stays z l.1 m; sub = b.sub }

  -- running a station's least unrun event: what adding its sends ensures
  pub sends_added : (ws : List Event) (st : States) (q : Queue) (x : Event) → First x.target x q.held → Replayed p ws st q
      → After p (insert_all_sorted (sends_of p (q.states x.target) x) ws) st (λ z. All (Lt z) (sends_of p (q.states x.target) x)) q (add_all p (sends_of p (q.states x.target) x) q)
  sends_added ws st q x f o = add_all_after ys ws st q (all_map (λ y w. w.inside) ys sent.each) (all_map new ys sent.each) sent.distinct o
    where
      s : ℕ
      s = x.target

      b : State
      b = q.states s

      ys : List Event
      ys = sends_of p b x

      sent : Good p.count s x.time b.sent (run_event p b x)
      sent = event_good p S b x (first_small p S s x ws st q.states f o.replay)

      new : (y : Event) → Sent p.count s x.time b.sent (after_of p b x).sent y → Fresh p y q.held
      new y w = fresh_above p S y ws st q.states q.held o.replay (λ _. rw w.source_is w.from)

  -- x is still the station's least, and its state is as it was
  pub still_first : (ws : List Event) (st : States) (q : Queue) (x : Event) → First x.target x q.held → Replayed p ws st q
      → First x.target x (add_all p (sends_of p (q.states x.target) x) q).held × ((add_all p (sends_of p (q.states x.target) x) q).states x.target ≡ q.states x.target)
  still_first ws st q x f o =
      (sends_added ws st q x f o).keeps x.target x
      (sends_later p S (q.states x.target) x (first_small p S x.target x ws st q.states f o.replay)) f

  pub run_ok : (ws : List Event) (st : States) (q : Queue) (x : Event) → First x.target x q.held → Replayed p ws st q → Replayed p ws st (run_least p q x)
  unfolding run_least
  run_ok ws st q x f o =
      let a = sends_added ws st q x f o in
      let k = still_first ws st q x f o in
      record {
        replay =
            mark_replay p S x.target x (q.states x.target) ws (insert_all_sorted (sends_of p (q.states x.target) x) ws) st
            (add_all p (sends_of p (q.states x.target) x) q).states k.0 a.ok.sorted (sym k.1) refl a.ok.replay;
        sorted = mark_sorted (q.states x.target) k.0 a.ok.sorted;
      }
