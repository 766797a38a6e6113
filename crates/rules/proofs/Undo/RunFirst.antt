-- A rollback after x goes the same way where x, the least unrun event of its station, has been run before: "run, then add the sends" can be done.
use mathlib.Core.Path.{◌≡◌, refl, sym, ap, ◌∙◌, subst, fun_ext}
use mathlib.Core.Logic.{◌≢◌, ◌⊎◌, inl, inr}
use mathlib.Core.Bool.{Bool, true, false, cond}
use mathlib.Core.List.Memᴰ
use mathlib.Core.List.{List, [], ◌∷◌}
use Prim.Native.Nat.{ℕ, ◌<◌}
use native.Mathlib.Omega.{arith}
use Rattle.line.specs.declared.Event.{Event}
use Rattle.line.specs.declared.State.{State}
use Rattle.line.specs.Event.{before}
use Rattle.line.specs.Station.{Plan, InRange, States, update}
use Rattle.line.specs.Order.{Lt, All}
use Rattle.line.proofs.Order.{tr, irr, asym, clash, ge_lt, Which, this, other, which}
use Rattle.line.proofs.All.{all_map, Distinct}
use Rattle.rules.specs.Held.{Held, unrun, ran, event, Queue, In, same, unmark, delete, place, mark}
use Rattle.rules.specs.Undo.{NoneLater, Action, Undo, UndoLater, Remove, RemoveEach, Add, AddEach, Does, undo, later_none, later_next, remove_run, remove_unrun, add, remove_none, remove_next, add_none, add_next}
use Rattle.rules.specs.Replay.{InOrder, Blocked, Strict, Neat}
use Rattle.rules.proofs.Replay.Replay.{sends_later, sends_of}
use Rattle.rules.proofs.Update.{update_at, update_other}
use Rattle.line.proofs.Members.{all_in}
use Rattle.rules.proofs.Replay.Mark as C
use Rattle.rules.proofs.Replay.Mark.{First, first_held, mark_this, mark_other, mark_ran}
use Rattle.rules.proofs.Replay.Delete.{same_lt}
use Rattle.rules.proofs.Replay.EntriesKept.{mark_stays}
use Rattle.rules.proofs.Undo.Cascade.{delete_first, place_first}
use Rattle.rules.proofs.Replay.Neat.{run_in, unmark_past, unmark_neat}
use Rattle.rules.proofs.Undo.Agree.{New, does_agree, still_new}

pub strict_sorted : (h : List Held) → Strict h → InOrder h
strict_sorted [] o = tt
strict_sorted (y ∷ h) o = (all_map (λ z l. asym l) h o.0, strict_sorted h o.1)

-- ---- one event marked

pub first_in : {s : ℕ} {x : Event} {h : List Held} → First s x h → In (unrun x) h
first_in (C.here e) = Memᴰ.head refl
first_in (C.past_unrun e f) = Memᴰ.tail (first_in f)
first_in (C.past_ran f) = Memᴰ.tail (first_in f)

mark_in : {s : ℕ} {x : Event} {h : List Held} (b : State) (z : Event) (a : State) → First s x h → In (ran z a) (mark s b h) → In (ran z a) h ⊎ (z ≡ x)
mark_in {s} {x} b z a (C.here {h = h} e) m = go (rw (mark_this s x b h e) at m)
  where
    go : In (ran z a) (ran x b ∷ h) → In (ran z a) (unrun x ∷ h) ⊎ (z ≡ x)
    go (Memᴰ.head i) = inr (cc)
    go (Memᴰ.tail k) = inl (Memᴰ.tail k)
mark_in {s} {x} b z a (C.past_unrun {y = w} {h = h} e f) m = go (rw (mark_other s w b h e) at m) (λ k. mark_in b z a f k)
  where
    up : In (ran z a) h ⊎ (z ≡ x) → In (ran z a) (unrun w ∷ h) ⊎ (z ≡ x)
    up (inl k) = inl (Memᴰ.tail k)
    up (inr k) = inr k

    go : In (ran z a) (unrun w ∷ mark s b h) → (In (ran z a) (mark s b h) → In (ran z a) h ⊎ (z ≡ x)) → In (ran z a) (unrun w ∷ h) ⊎ (z ≡ x)
    go (Memᴰ.head i) ih = let k : ◌≡◌ {A = ℕ} 0 1 = cc in absurd (omega arith)
    go (Memᴰ.tail k) ih = up (ih k)
mark_in {s} {x} b z a (C.past_ran {y = w} {a = c} {h = h} f) m = go (rw (mark_ran s w c b h) at m) (λ k. mark_in b z a f k)
  where
    up : In (ran z a) h ⊎ (z ≡ x) → In (ran z a) (ran w c ∷ h) ⊎ (z ≡ x)
    up (inl k) = inl (Memᴰ.tail k)
    up (inr k) = inr k

    go : In (ran z a) (ran w c ∷ mark s b h) → (In (ran z a) (mark s b h) → In (ran z a) h ⊎ (z ≡ x)) → In (ran z a) (ran w c ∷ h) ⊎ (z ≡ x)
    go (Memᴰ.head i) ih = inl (Memᴰ.head i)
    go (Memᴰ.tail k) ih = up (ih k)

mark_unrun_stays : {s : ℕ} {x : Event} {h : List Held} (b : State) (y : Event) → First s x h → Lt x y → In (unrun y) h → In (unrun y) (mark s b h)
mark_unrun_stays {s} {x} b y (C.here {h = h} e) l (Memᴰ.head i) = let k : y ≡ x = cc in absurd (clash (subst (Lt x) k l) (irr x))
mark_unrun_stays {s} {x} b y (C.here {h = h} e) l (Memᴰ.tail m) = rw (mark_this s x b h e) (Memᴰ.tail m)
mark_unrun_stays {s} {x} b y (C.past_unrun {y = w} {h = h} e f) l (Memᴰ.head i) = rw (mark_other s w b h e) (Memᴰ.head i)
mark_unrun_stays {s} {x} b y (C.past_unrun {y = w} {h = h} e f) l (Memᴰ.tail m) = rw (mark_other s w b h e) (Memᴰ.tail (mark_unrun_stays b y f l m))
mark_unrun_stays {s} {x} b y (C.past_ran {y = w} {a = c} {h = h} f) l (Memᴰ.head i) = let k : ◌≡◌ {A = ℕ} 0 1 = cc in absurd (omega arith)
mark_unrun_stays {s} {x} b y (C.past_ran {y = w} {a = c} {h = h} f) l (Memᴰ.tail m) = rw (mark_ran s w c b h) (Memᴰ.tail (mark_unrun_stays b y f l m))

none_mark : {s : ℕ} {x : Event} {h : List Held} (b : State) (y : Event) → First s x h → Lt x y → NoneLater y h → NoneLater y (mark s b h)
none_mark {s} {x} {h} b y f l n z a m t = go (mark_in b z a f m)
  where
    go : In (ran z a) h ⊎ (z ≡ x) → before y z ≡ false
    go (inl k) = n z a k t
    go (inr e) = subst (λ w. before y w ≡ false) (sym e) (asym l).is

-- the entries in front of x come before what is after x
past : {s : ℕ} {x y : Event} {h : List Held} (w : Held) → First s x h → All (λ z. Lt (event w) (event z)) h → Lt x y → Lt (event w) y
past w f a l = tr (all_in (λ z. Lt (event w) (event z)) (first_in f) a) l

unmark_mark : {s : ℕ} {x : Event} {h : List Held} (b : State) (y : Event) → First s x h → Strict h → Lt x y → unmark y (mark s b h) ≡ mark s b (unmark y h)
unmark_mark {s} {x} b y (C.here {h = h} e) o l =
    rw (mark_this s x b h e, unmark_past y (ran x b) h l, unmark_past y (unrun x) h l, mark_this s x b (unmark y h) e)
unmark_mark {s} {x} b y (C.past_unrun {y = w} {h = h} e f) o l =
    rw (mark_other s w b h e, unmark_past y (unrun w) (mark s b h) (past (unrun w) f o.0 l), unmark_past y (unrun w) h (past (unrun w) f o.0 l), mark_other s w b (unmark y h) e, unmark_mark b y f o.1 l)
unmark_mark {s} {x} b y (C.past_ran {y = w} {a = c} {h = h} f) o l =
    rw (mark_ran s w c b h, unmark_past y (ran w c) (mark s b h) (past (ran w c) f o.0 l), unmark_past y (ran w c) h (past (ran w c) f o.0 l), mark_ran s w c b (unmark y h), unmark_mark b y f o.1 l)

unmark_first : {s : ℕ} {x : Event} {h : List Held} (y : Event) → First s x h → Strict h → Lt x y → First s x (unmark y h)
unmark_first {s} {x} y (C.here {h = h} e) o l = rw (unmark_past y (unrun x) h l) (C.here e)
unmark_first y (C.past_unrun {y = w} {h = h} e f) o l = rw (unmark_past y (unrun w) h (past (unrun w) f o.0 l)) (C.past_unrun e (unmark_first y f o.1 l))
unmark_first y (C.past_ran {y = w} {a = c} {h = h} f) o l = rw (unmark_past y (ran w c) h (past (ran w c) f o.0 l)) (C.past_ran (unmark_first y f o.1 l))

delete_mark : {s : ℕ} {x : Event} {h : List Held} (b : State) (y : Event) → First s x h → Lt x y → delete y (mark s b h) ≡ mark s b (delete y h)
unfolding delete
delete_mark {s} {x} b y (C.here {h = h} e) l = rw (mark_this s x b h e, same_lt l, mark_this s x b (delete y h) e)
delete_mark {s} {x} b y (C.past_unrun {y = w} {h = h} e f) l = rw (mark_other s w b h e) (go (same w y) (delete_mark b y f l))
  where
    go : (v : Bool) → delete y (mark s b h) ≡ mark s b (delete y h)
        → cond v (mark s b h) (unrun w ∷ delete y (mark s b h)) ≡ mark s b (cond v h (unrun w ∷ delete y h))
    go true i = refl
    go false i = ap (λ k. unrun w ∷ k) i ∙ sym (mark_other s w b (delete y h) e)
delete_mark {s} {x} b y (C.past_ran {y = w} {a = c} {h = h} f) l = rw (mark_ran s w c b h) (go (same w y) (delete_mark b y f l))
  where
    go : (v : Bool) → delete y (mark s b h) ≡ mark s b (delete y h)
        → cond v (mark s b h) (ran w c ∷ delete y (mark s b h)) ≡ mark s b (cond v h (ran w c ∷ delete y h))
    go true i = refl
    go false i = ap (λ k. ran w c ∷ k) i ∙ sym (mark_ran s w c b (delete y h))

place_mark : {s : ℕ} {x : Event} {h : List Held} (b : State) (y : Event) → First s x h → InOrder h → Lt x y → place y (mark s b h) ≡ mark s b (place y h)
unfolding place
place_mark {s} {x} b y (C.here {h = h} e) o l = rw (mark_this s x b h e, l.is, mark_this s x b (place y h) e)
place_mark {s} {x} b y (C.past_unrun {y = w} {h = h} e f) o l =
    let m : Lt w y = ge_lt (first_held w f o.0) l in
    rw (mark_other s w b h e, m.is, mark_other s w b (place y h) e, place_mark b y f o.1 l)
place_mark {s} {x} b y (C.past_ran {y = w} {a = c} {h = h} f) o l =
    let m : Lt w y = ge_lt (first_held w f o.0) l in
    rw (mark_ran s w c b h, m.is, mark_ran s w c b (place y h), place_mark b y f o.1 l)

update_swap : (f : States) (s t : ℕ) (v a : State) → t ≢ s → update (update f s v) t a ≡ update (update f t a) s v
update_swap f s t v a n = fun_ext (λ u. go u (which u s) (which u t))
  where
    go : (u : ℕ) → Which u s → Which u t → update (update f s v) t a u ≡ update (update f t a) s v u
    go u (this i _) (this j _) = absurd (n (sym j ∙ i))
    go u (this i _) (other j _) = update_other (update f s v) a j ∙ update_at f v i ∙ sym (update_at (update f t a) v i)
    go u (other i _) (this j _) = update_at (update f s v) a j ∙ sym (update_at f a j) ∙ sym (update_other (update f t a) v i)
    go u (other i _) (other j _) = update_other (update f s v) a j ∙ update_other f v i ∙ sym (update_other f a j) ∙ sym (update_other (update f t a) v i)

-- a run event after x has another target
other_target : {s : ℕ} {x : Event} (h : List Held) (y : Event) (c : State) → First s x h → Strict h → Blocked h → In (ran y c) h → Lt x y → y.target ≢ s
other_target [] y c m o k _ l = elim m [ ]
other_target {s} {x} (unrun w ∷ h) y c (C.here e) o k (Memᴰ.head i) l = let z : ◌≡◌ {A = ℕ} 0 1 = cc in absurd (omega arith)
other_target {s} {x} (unrun w ∷ h) y c (C.here e) o k (Memᴰ.tail m) l = subst (λ t. y.target ≢ t) e (run_in (λ z a. z.target ≢ x.target) y c h m k.0)
other_target {s} {x} (unrun w ∷ h) y c (C.past_unrun e f) o k (Memᴰ.head i) l = let z : ◌≡◌ {A = ℕ} 0 1 = cc in absurd (omega arith)
other_target {s} {x} (unrun w ∷ h) y c (C.past_unrun e f) o k (Memᴰ.tail m) l = other_target h y c f o.1 k.1 m l
other_target {s} {x} (ran w a ∷ h) y c (C.past_ran f) o k (Memᴰ.head i) l = let j : y ≡ w = cc in absurd (clash (tr l (subst (λ z. Lt z x) (sym j) (all_in (λ z. Lt w (event z)) (first_in f) o.0))) (irr x))
other_target {s} {x} (ran w a ∷ h) y c (C.past_ran f) o k (Memᴰ.tail m) l = other_target h y c f o.1 k m l

-- ---- the rules

module _ (p : Plan) (S : InRange p) (s : ℕ) (x : Event) (b v : State) where
  -- the queue with x run from b, and v its station's state after it
  abbrev pub on : Queue → Queue
  on q = record { states = update q.states s v; held = mark s b q.held }

  -- all that the action names is after x, and what else it needs
  abbrev Fit : Action → Queue → Type 0
  Fit (Undo y) q = Lt x y × NoneLater y q.held
  Fit (UndoLater y) q = Lt x y
  Fit (Remove y) q = Lt x y
  Fit (RemoveEach ys) q = All (Lt x) ys
  Fit (Add y) q = Lt x y × (y.target < p.count) × New y q.held
  Fit (AddEach ys) q = All (Lt x) ys × All (λ y. y.target < p.count) ys × All (λ y. New y q.held) ys × Distinct ys

  same_queue : {f g : States} {h k : List Held} → f ≡ g → h ≡ k → ◌≡◌ {A = Queue} (record { states = f; held = h }) (record { states = g; held = k })
  same_queue e i = cc

  pub does_on : {a : Action} {q r : Queue} → Does p a q r → Fit a q → Neat p q.held → First s x q.held → Does p a (on q) (on r) × First s x r.held
  does_on (undo {q = q} {r = r} {x = y} {b = c} m d) t k f =
      let i =
      does_on d (all_map (λ z l. tr t.0 l) (sends_of p c y) (sends_later p S c y (all_in (λ z. (event z).target < p.count) m k.inside)))
      (unmark_neat p y c q.held m t.1 k) (unmark_first y f k.strict t.0) in
      (undo (mark_stays y c b f m) (subst (λ u. Does p (RemoveEach (sends_of p c y)) u (on r)) (same_queue (sym (update_swap q.states s y.target v c (other_target q.held y c f k.strict k.blocked m t.0))) (sym (unmark_mark b y f k.strict t.0))) i.0), i.1)
  does_on (later_none {q = q} {x = y} n) t k f = (later_none (none_mark b y f t n), f)
  does_on (later_next {q = q} {x = y} {y = w} l d c) t k f =
      let m : Lt x w = tr t (record { is = l.later }) in
      let i = does_on d (m, l.latest) k f in
      let j = does_on c t (does_agree p d k l.latest l.before_it l.run).1 i.1 in
      (later_next (record { before_it = l.before_it; run = mark_stays w l.before_it b f l.run; target_is = l.target_is; later = l.later; latest = none_mark b w f m l.latest }) i.0 j.0, j.1)
  does_on (remove_run {q = q} {r = r} {u = u} {x = y} {b = c} m d e) t k f =
      let g = does_agree p d k in
      let i = does_on d t k f in
      let j = does_on e (t, g.1) g.2 i.1 in
      (subst (Does p (Remove y) (on q)) (same_queue refl (delete_mark b y j.1 t)) (remove_run (mark_stays y c b f m) i.0 j.0), delete_first y j.1 t)
  does_on (remove_unrun {q = q} {x = y} m) t k f = (subst (Does p (Remove y) (on q)) (same_queue refl (delete_mark b y f t)) (remove_unrun (mark_unrun_stays b y f t m)), delete_first y f t)
  does_on (add {q = q} {r = r} {x = y} d) t k f =
      let g = does_agree p d k in
      let i = does_on d t.0 k f in
      let o : InOrder r.held = strict_sorted r.held g.2.strict in
      (subst (Does p (Add y) (on q)) (same_queue refl (place_mark b y i.1 o t.0)) (add i.0), place_first y i.1 t.0 o)
  does_on remove_none t k f = (remove_none, f)
  does_on (remove_next d e) t k f =
      let i = does_on d t.0 k f in
      let j = does_on e t.1 (does_agree p d k).1 i.1 in
      (remove_next i.0 j.0, j.1)
  does_on add_none t k f = (add_none, f)
  does_on (add_next {xs = ys} d e) t k f =
      let i = does_on d (t.0.0, t.1.0, t.2.0) k f in
      let j = does_on e (t.0.1, t.1.1, still_new p d ys t.3.0 t.2.1, t.3.1) (does_agree p d k t.1.0 t.2.0).1 i.1 in
      (add_next i.0 j.0, j.1)
