-- The rules of specs/Undo always come to an end: on a queue that is a replay, what they say to do can be done. The number that falls is the count of
-- run events.
use mathlib.Core.Path.{◌≡◌, refl, sym, ap, ◌∙◌, subst}
use mathlib.Core.Bool.{Bool, true, false, cond}
use mathlib.Core.List.Memᴰ
use mathlib.Core.List.{List, [], ◌∷◌}
use Prim.Native.Nat.{ℕ, zero, suc, ◌≤◌, ◌<◌}
use native.Mathlib.Nat.{le_refl, le_trans}
use native.Mathlib.Omega.{arith}
use Rattle.line.specs.declared.Event.{Event}
use Rattle.line.specs.declared.State.{State}
use Rattle.line.specs.Event.{before}
use Rattle.line.specs.Station.{Plan, InRange, States, update}
use Rattle.line.specs.Order.{Lt, Ge, All}
use Rattle.line.proofs.Order.{Cmp, less, not_less, cmp, tr, irr, asym, clash, ge_lt, Which, this, other, which}
use Rattle.line.proofs.All.{all_map, Distinct}
use Rattle.rules.specs.Held.{Held, unrun, ran, event, Queue, In, unmark, delete, place}
use Rattle.rules.specs.Undo.{NoneLater, LatestLater, Undo, UndoLater, Remove, RemoveEach, Add, AddEach, Does, undo, later_none, later_next, remove_run, remove_unrun, add, remove_none, remove_next, add_none, add_next}
use Rattle.rules.specs.Executable as F
use Rattle.rules.specs.Executable.{runs, remove_all, undo_event}
use Rattle.rules.specs.Replay.{insert_sorted, insert_all_sorted, Replay, Fresh, Replayed, Strict, Neat}
use Rattle.rules.proofs.Replay.Replay.{sends_of, after_of}
use Rattle.rules.proofs.Replay.Unmark.{Latest, found_runs}
use Rattle.rules.proofs.Undo.Cascade.{After, Below, after_trans, same_after, removal, found_after, found_new, found_ahead, undo_within_lem, remove_after, add_after, no_runs}
use Rattle.rules.proofs.Undo.Fuel.{remove_all_lem}
use Rattle.line.proofs.Members.{all_in}
use Rattle.rules.proofs.Replay.Neat.{run_in, unmark_neat, is_latest}
use Rattle.rules.proofs.Undo.Agree.{New, does_agree, still_new}

-- ---- the latest run event later than x, if there is one

pub data Seek (x : Event) (h : List Held) : Type 0 where
  none_later : NoneLater x h → Seek x h
  latest_is : (y : Event) → LatestLater x y h → Seek x h

after_unrun : (x w : Event) (h : List Held) → NoneLater x h → NoneLater x (unrun w ∷ h)
after_unrun x w h n z a (Memᴰ.head e) t = let k : ◌≡◌ {A = ℕ} 0 1 = cc in absurd (omega arith)
after_unrun x w h n z a (Memᴰ.tail m) t = n z a m t

after_ran : (x w : Event) (b : State) (h : List Held) → (w.target ≡ x.target → before x w ≡ false) → NoneLater x h → NoneLater x (ran w b ∷ h)
after_ran x w b h f n z a (Memᴰ.head e) t = let k : z ≡ w = cc in subst (λ v. before x v ≡ false) (sym k) (f (ap (λ v. v.target) (sym k) ∙ t))
after_ran x w b h f n z a (Memᴰ.tail m) t = n z a m t

pub seek : (x : Event) (h : List Held) → Strict h → Seek x h
seek x [] o = none_later (λ z a m t. elim m [ ])
seek x (unrun w ∷ h) o = go (seek x h o.1)
  where
    go : Seek x h → Seek x (unrun w ∷ h)
    go (none_later n) = none_later (after_unrun x w h n)
    go (latest_is y l) =
        latest_is y
        (record { before_it = l.before_it; run = Memᴰ.tail l.run; target_is = l.target_is; later = l.later; latest = after_unrun y w h l.latest })
seek x (ran w b ∷ h) o = go (seek x h o.1) (which w.target x.target) (cmp x w)
  where
    -- no run event of the target is after w
    last : NoneLater x h → Lt x w → w.target ≡ x.target → NoneLater w h
    last n l e z a m t = absurd (clash (tr l (all_in (λ v. Lt w (event v)) m o.0)) (record { is = n z a m (t ∙ e) }))

    go : Seek x h → Which w.target x.target → Cmp x w → Seek x (ran w b ∷ h)
    go (latest_is y l) i c =
        latest_is y (record { before_it = l.before_it; run = Memᴰ.tail l.run; target_is = l.target_is; later = l.later; latest = after_ran y w b h (λ _. (asym (all_in (λ v. Lt w (event v)) l.run o.0)).is) l.latest })
    go (none_later n) (other i _) c = none_later (after_ran x w b h (λ t. absurd (i t)) n)
    go (none_later n) (this i _) (not_less c) = none_later (after_ran x w b h (λ _. c.is) n)
    go (none_later n) (this i _) (less c) =
        latest_is w (record { before_it = b; run = Memᴰ.head refl; target_is = i; later = c.is; latest = after_ran w w b h (λ _. (irr w).is) (last n c i) })

-- ---- what waits is held

pub data IsHeld (y : Event) (h : List Held) : Type 0 where
  is_unrun : In (unrun y) h → IsHeld y h
  is_run : (b : State) → In (ran y b) h → IsHeld y h

pub all_inserted : (P : Event → Type 0) (x : Event) (ws : List Event) → All P (insert_sorted x ws) → P x × All P ws
unfolding insert_sorted
all_inserted P x [] a = a
all_inserted P x (w ∷ ws) a = go (before w x) a (λ k. all_inserted P x ws k)
  where
    go : (v : Bool) → All P (cond v (w ∷ insert_sorted x ws) (x ∷ w ∷ ws)) → (All P (insert_sorted x ws) → P x × All P ws) → P x × All P (w ∷ ws)
    go true k ih = let i = ih k.1 in (i.0, (k.0, i.1))
    go false k ih = k

all_others : (P : Event → Type 0) (xs ws : List Event) → All P (insert_all_sorted xs ws) → All P ws
unfolding insert_all_sorted
all_others P [] ws a = a
all_others P (x ∷ xs) ws a = all_others P xs ws (all_inserted P x (insert_all_sorted xs ws) a).1

wider : {y : Event} (w : Held) {h : List Held} → IsHeld y h → IsHeld y (w ∷ h)
wider w (is_unrun m) = is_unrun (Memᴰ.tail m)
wider w (is_run b m) = is_run b (Memᴰ.tail m)

pub waiting_held : (p : Plan) (ws : List Event) (st cur : States) (h : List Held) → Replay p ws st cur h → All (λ y. IsHeld y h) ws
waiting_held p ws st cur [] r = rw r.0 tt
waiting_held p ws st cur (unrun x ∷ h) r =
    rw r.1 (is_unrun (Memᴰ.head refl), all_map (λ y k. wider (unrun x) k) r.0 (waiting_held p r.0 st cur h r.4))
waiting_held p ws st cur (ran x b ∷ h) r =
    rw r.1 (
      is_run b (Memᴰ.head refl),
      all_map (λ y k. wider (ran x b) k) r.0 (all_others (λ y. IsHeld y h) (sends_of p b x) r.0
          (waiting_held p (insert_all_sorted (sends_of p b x) r.0) (update st x.target (after_of p b x)) cur h r.4)),
    )

-- ---- the rules can be followed

module _ (p : Plan) (S : InRange p) where
  -- undoing an event that is the latest run one of its target, as the function does it
  pub event_after : (q : Queue) (s : ℕ) (x e : Event) (b : State) (h : List Held) (ws : List Event) (st : States) → Replayed p ws st q → Latest s x e b q.held h
      → After p ws st (Below x) q (undo_event p q s e b h) × (suc (runs (undo_event p q s e b h).held) ≤ runs q.held)
  unfolding undo_event
  event_after q s x e b h ws st o l = (after_trans p (insert_all_sorted ys ws) ws st (Below x) (Below x) q q₁ q₂ (λ y k. k) one two, omega (arith, two.fewer, found_runs l))
    where
      ys : List Event
      ys = sends_of p b e

      q₁ : Queue
      q₁ = record { states = update q.states s b; held = h }

      q₂ : Queue
      q₂ = remove_all p ys q₁

      one : After p (insert_all_sorted ys ws) st (Below x) q q₁
      one = found_after p S q s x e b h ws st o l

      two : After p ws st (Below x) q₁ q₂
      two =
          subst (After p ws st (Below x) q₁) (remove_all_lem p (runs h) ys q₁ (le_refl _))
          (removal p S (runs h) (undo_within_lem p S (runs h)) x ys q₁ (le_refl _) ws st one.ok (found_new p S q s x e b h ws st o l) (found_ahead p S q s x e b h ws st o l))

  -- what an undo, and undoing all later ones, ensures
  pub record CanUndo (ws : List Event) (st : States) (q : Queue) (x : Event) : Type 0 where
    pub left : Queue
    pub does : Does p (Undo x) q left
    pub after : After p ws st (Below x) q left
    pub falls : suc (runs left.held) ≤ runs q.held
    pub neat : Neat p left.held

  pub record CanUndoLater (ws : List Event) (st : States) (q : Queue) (x : Event) : Type 0 where
    pub left : Queue
    pub does : Does p (UndoLater x) q left
    pub after : After p ws st (λ z. Ge x z) q left
    pub none : NoneLater x left.held
    pub neat : Neat p left.held

  -- with at most n run events
  pub record Can (n : ℕ) : Type 0 where
    pub one : (q : Queue) → runs q.held ≤ n → (ws : List Event) (st : States) → Replayed p ws st q → Neat p q.held → (x : Event) (b : State)
        → In (ran x b) q.held → NoneLater x q.held → CanUndo ws st q x
    pub all : (q : Queue) → runs q.held ≤ n → (ws : List Event) (st : States) → Replayed p ws st q → Neat p q.held → (x : Event) → CanUndoLater ws st q x

  -- a held event can be removed
  can_remove_within : (n : ℕ) → Can n → (q : Queue) → runs q.held ≤ n → (ws : List Event) (st : States) (y : Event) → Replayed p ws st q
      → Neat p q.held → IsHeld y q.held → (r : Queue) × Does p (Remove y) q r
  can_remove_within n C q l ws st y o k (is_unrun m) = (record { states = q.states; held = delete y q.held }, remove_unrun m)
  can_remove_within n C q l ws st y o k (is_run b m) =
      let d = C.all q l ws st o k y in
      let e = C.one d.left (le_trans d.after.fewer l) ws st d.after.ok d.neat y b (d.after.stays (ran y b) (irr y) m) d.none in
      (record { states = e.left.states; held = delete y e.left.held }, remove_run m d.does e.does)

  can_remove_each : (n : ℕ) → Can n → (ys : List Event) (q : Queue) → runs q.held ≤ n → (ws : List Event) (st : States)
      → Replayed p (insert_all_sorted ys ws) st q → All (λ y. Fresh p y q.held) ys → Neat p q.held → (r : Queue) × Does p (RemoveEach ys) q r
  unfolding insert_all_sorted
  can_remove_each n C [] q l ws st o f k = (q, remove_none)
  can_remove_each n C (y ∷ ys) q l ws st o f k =
      then (can_remove_each n C ys d.0 (le_trans a.fewer l) ws st a.ok (all_map (λ z g. a.fresh z g) ys f.1) agrees.1)
    where
      d : (r : Queue) × Does p (Remove y) q r
      d =
          can_remove_within n C q l (insert_sorted y (insert_all_sorted ys ws)) st y o k
          (all_inserted (λ z. IsHeld z q.held) y (insert_all_sorted ys ws) (waiting_held p (insert_sorted y (insert_all_sorted ys ws)) st q.states q.held o.replay)).0

      agrees : (d.0 ≡ F.removing p q y) × Neat p d.0.held
      agrees = does_agree p d.1 k

      a : After p (insert_all_sorted ys ws) st (Below y) q d.0
      a = subst (After p (insert_all_sorted ys ws) st (Below y) q) (sym agrees.0) (remove_after p S (insert_all_sorted ys ws) st y q f.0 o)

      then : (r : Queue) × Does p (RemoveEach ys) d.0 r → (r : Queue) × Does p (RemoveEach (y ∷ ys)) q r
      then r = (r.0, remove_next d.1 r.1)

  can_undo : (n : ℕ) → Can n → (q : Queue) → runs q.held ≤ suc n → (ws : List Event) (st : States) → Replayed p ws st q → Neat p q.held
      → (x : Event) (b : State) → In (ran x b) q.held → NoneLater x q.held → CanUndo ws st q x
  can_undo n C q l ws st o k x b m v = record { left = d.0; does = whole; after = subst (After p ws st (Below x) q) (sym agrees.0) made.0; falls = subst (λ r. suc (runs r.held) ≤ runs q.held) (sym agrees.0) made.1; neat = agrees.1 }
    where
      lat : Latest x.target x x b q.held (unmark x q.held)
      lat = is_latest x.target x x b q.held k.strict m refl (irr x) v

      q₁ : Queue
      q₁ = record { states = update q.states x.target b; held = unmark x q.held }

      d : (r : Queue) × Does p (RemoveEach (sends_of p b x)) q₁ r
      d =
          can_remove_each n C (sends_of p b x) q₁ (omega (arith, found_runs lat, l)) ws st
          (found_after p S q x.target x x b (unmark x q.held) ws st o lat).ok
          (found_new p S q x.target x x b (unmark x q.held) ws st o lat) (unmark_neat p x b q.held m v k)

      whole : Does p (Undo x) q d.0
      whole = undo m d.1

      agrees : (d.0 ≡ undo_event p q x.target x b (unmark x q.held)) × Neat p d.0.held
      agrees = does_agree p whole k v b m

      made : After p ws st (Below x) q (undo_event p q x.target x b (unmark x q.held)) × (suc (runs (undo_event p q x.target x b (unmark x q.held)).held) ≤ runs q.held)
      made = event_after q x.target x x b (unmark x q.held) ws st o lat

  can_later : (n : ℕ) → Can n → (q : Queue) → runs q.held ≤ suc n → (ws : List Event) (st : States) → Replayed p ws st q → Neat p q.held → (x : Event)
      → CanUndoLater ws st q x
  can_later n C q l ws st o k x = go (seek x q.held k.strict)
    where
      go : Seek x q.held → CanUndoLater ws st q x
      go (none_later v) = record { left = q; does = later_none v; after = same_after p ws st (λ z. Ge x z) q o; none = v; neat = k }
      go (latest_is y t) =
          let d = can_undo n C q l ws st o k y t.before_it t.run t.latest in
          let e = C.all d.left (omega (arith, d.falls, l)) ws st d.after.ok d.neat x in
          record {
            left = e.left;
            does = later_next t d.does e.does;
            after = after_trans p ws ws st (Below y) (λ z. Ge x z) q d.left e.left (λ z g. ge_lt g (record { is = t.later })) d.after e.after;
            none = e.none;
            neat = e.neat;
          }

  pub can : (n : ℕ) → Can n
  can zero = record {
    one = λ q l ws st o k x b m v. absurd (run_in (λ _ _. ⊥) x b q.held m (no_runs (λ _ _. ⊥) q.held l));
    all = λ q l ws st o k x. record {
      left = q;
      does = later_none (λ z a m t. absurd (run_in (λ _ _. ⊥) z a q.held m (no_runs (λ _ _. ⊥) q.held l)));
      after = same_after p ws st (λ z. Ge x z) q o;
      none = λ z a m t. absurd (run_in (λ _ _. ⊥) z a q.held m (no_runs (λ _ _. ⊥) q.held l));
      neat = k;
    };
  }
  can (suc n) = record { one = can_undo n (can n); all = can_later n (can n) }

  pub can_remove : (q : Queue) (ws : List Event) (st : States) → Replayed p ws st q → Neat p q.held → (x : Event) → IsHeld x q.held
      → (r : Queue) × Does p (Remove x) q r
  can_remove q ws st o k x m = can_remove_within (runs q.held) (can (runs q.held)) q (le_refl _) ws st x o k m

  -- an event can be added, and events one after the other
  pub can_add : (q : Queue) (ws : List Event) (st : States) → Replayed p ws st q → Neat p q.held → (x : Event) → (r : Queue) × Does p (Add x) q r
  can_add q ws st o k x = let d = (can (runs q.held)).all q (le_refl _) ws st o k x in (record { states = d.left.states; held = place x d.left.held }, add d.does)

  pub can_add_each : (xs : List Event) (q : Queue) (ws : List Event) (st : States) → Replayed p ws st q → Neat p q.held
      → All (λ x. x.target < p.count) xs → All (λ x. Fresh p x q.held) xs → All (λ x. New x q.held) xs → Distinct xs
      → (r : Queue) × Does p (AddEach xs) q r
  can_add_each [] q ws st o k t f w d = (q, add_none)
  can_add_each (x ∷ xs) q ws st o k t f w d =
      then
      (can_add_each xs one.0 (insert_sorted x ws) st a.ok agrees.1 t.1 (all_map (λ y g. a.fresh y g) xs f.1) (still_new p one.1 xs d.0 w.1) d.1)
    where
      one : (r : Queue) × Does p (Add x) q r
      one = can_add q ws st o k x

      agrees : (one.0 ≡ F.adding p q x) × Neat p one.0.held
      agrees = does_agree p one.1 k t.0 w.0

      a : After p (insert_sorted x ws) st (Below x) q one.0
      a = subst (After p (insert_sorted x ws) st (Below x) q) (sym agrees.0) (add_after p S ws st x q t.0 f.0 o)

      then : (r : Queue) × Does p (AddEach xs) one.0 r → (r : Queue) × Does p (AddEach (x ∷ xs)) q r
      then r = (r.0, add_next one.1 r.1)
