-- The held events between two calls, and between two steps of a rollback: in strict order, at stations, and with nothing of a station run after
-- an unrun event of it. What the elementary changes keep of that.
use mathlib.Core.Path.{◌≡◌, refl, sym, ap, ◌∙◌, subst}
use mathlib.Core.Logic.{◌≢◌}
use mathlib.Core.Bool.{Bool, true, false, cond}
use mathlib.Core.List.Memᴰ
use mathlib.Core.List.{List, [], ◌∷◌}
use Prim.Native.Nat.{ℕ, ◌<◌}
use native.Mathlib.Omega.{arith}
use Rattle.line.specs.declared.Event.{Event}
use Rattle.line.specs.declared.State.{State}
use Rattle.line.specs.Event.{before}
use Rattle.line.specs.Station.{Plan}
use Rattle.line.specs.Order.{Lt, Ge, Differ, fst, snd, All}
use Rattle.line.proofs.Order.{Cmp, less, not_less, cmp, tr, co, irr, asym, clash}
use Rattle.line.proofs.All.{all_map}
use Rattle.rules.specs.Held.{Held, unrun, ran, event, In, same, unmark, delete, place, mark}
use Rattle.rules.specs.Undo.{NoneLater}
use Rattle.line.proofs.Members.{all_in}
use Rattle.rules.specs.Replay.{EachRun, NoRun, Clear, Blocked, Strict, Neat}
use Rattle.rules.proofs.Replay.Unmark as U
use Rattle.rules.proofs.Replay.Unmark.{Latest, clear_norun}
use Rattle.rules.proofs.Replay.Mark as C
use Rattle.rules.proofs.Replay.Delete.{same_self, same_lt, delete_all}
use Rattle.rules.proofs.Replay.Place.{place_all}
use Rattle.rules.proofs.Replay.Mark.{First, first_target, mark_this, mark_other, mark_ran, mark_all}

-- ---- members

pub in_run : (Q : Event → State → Type 0) (h : List Held) → ((z : Event) (a : State) → In (ran z a) h → Q z a) → EachRun Q h
in_run Q [] f = tt
in_run Q (unrun x ∷ h) f = in_run Q h (λ z a m. f z a (Memᴰ.tail m))
in_run Q (ran x b ∷ h) f = (f x b (Memᴰ.head refl), in_run Q h (λ z a m. f z a (Memᴰ.tail m)))

pub run_in : (Q : Event → State → Type 0) (z : Event) (a : State) (h : List Held) → In (ran z a) h → EachRun Q h → Q z a
run_in Q z a [] m q = elim m [ ]
run_in Q z a (unrun x ∷ h) (Memᴰ.head e) q = let k : ◌≡◌ {A = ℕ} 0 1 = cc in absurd (omega arith)
run_in Q z a (unrun x ∷ h) (Memᴰ.tail m) q = run_in Q z a h m q
run_in Q z a (ran x b ∷ h) (Memᴰ.head e) q = let k : z ≡ x = cc in let l : a ≡ b = cc in rw (k, l) q.0
run_in Q z a (ran x b ∷ h) (Memᴰ.tail m) q = run_in Q z a h m q.1

-- ---- strict order

-- what holds of every event still does
pub unmark_each : (P : Event → Type 0) (x : Event) (h : List Held) → All (λ z. P (event z)) h → All (λ z. P (event z)) (unmark x h)
unfolding unmark
unmark_each P x [] a = tt
unmark_each P x (y ∷ h) a = go (same (event y) x) (unmark_each P x h a.1)
  where
    go : (v : Bool) → All (λ z. P (event z)) (unmark x h) → All (λ z. P (event z)) (cond v (unrun (event y) ∷ h) (y ∷ unmark x h))
    go true i = a
    go false i = (a.0, i)

pub delete_each : (P : Event → Type 0) (x : Event) (h : List Held) → All (λ z. P (event z)) h → All (λ z. P (event z)) (delete x h)
unfolding delete
delete_each P x [] a = tt
delete_each P x (y ∷ h) a = go (same (event y) x) (delete_each P x h a.1)
  where
    go : (v : Bool) → All (λ z. P (event z)) (delete x h) → All (λ z. P (event z)) (cond v h (y ∷ delete x h))
    go true i = a.1
    go false i = (a.0, i)

pub place_each : (P : Event → Type 0) (x : Event) (h : List Held) → P x → All (λ z. P (event z)) h → All (λ z. P (event z)) (place x h)
unfolding place
place_each P x [] k a = (k, tt)
place_each P x (y ∷ h) k a = go (before (event y) x) (place_each P x h k a.1)
  where
    go : (v : Bool) → All (λ z. P (event z)) (place x h) → All (λ z. P (event z)) (cond v (y ∷ place x h) (unrun x ∷ y ∷ h))
    go true i = (a.0, i)
    go false i = (k, a)

unmark_strict : (x : Event) (h : List Held) → Strict h → Strict (unmark x h)
unfolding unmark
unmark_strict x [] o = tt
unmark_strict x (y ∷ h) o = go (same (event y) x) (unmark_strict x h o.1)
  where
    go : (v : Bool) → Strict (unmark x h) → Strict (cond v (unrun (event y) ∷ h) (y ∷ unmark x h))
    go true i = o
    go false i = (unmark_each (Lt (event y)) x h o.0, i)

delete_strict : (x : Event) (h : List Held) → Strict h → Strict (delete x h)
unfolding delete
delete_strict x [] o = tt
delete_strict x (y ∷ h) o = go (same (event y) x) (delete_strict x h o.1)
  where
    go : (v : Bool) → Strict (delete x h) → Strict (cond v h (y ∷ delete x h))
    go true i = o.1
    go false i = (delete_each (Lt (event y)) x h o.0, i)

place_strict : (x : Event) (h : List Held) → All (λ z. Differ x (event z)) h → Strict h → Strict (place x h)
unfolding place
place_strict x [] d o = (tt, tt)
place_strict x (y ∷ h) d o = go (cmp (event y) x) d.0 (place_strict x h d.1 o.1)
  where
    go : Cmp (event y) x → Differ x (event y) → Strict (place x h) → Strict (place x (y ∷ h))
    go (less k) e i = rw k.is (place_each (Lt (event y)) x h k o.0, i)
    go (not_less k) (fst e) i = rw k.is ((e, all_map (λ z l. tr e l) h o.0), o)
    go (not_less k) (snd e) i = absurd (clash e k)

-- an event is held once, and is run from one state
pub one_state : (x : Event) (a b : State) (h : List Held) → Strict h → In (ran x a) h → In (ran x b) h → a ≡ b
one_state x a b [] o m _ = elim m [ ]
one_state x a b (y ∷ h) o (Memᴰ.head e) (Memᴰ.head f) = cc
one_state x a b (y ∷ h) o (Memᴰ.head e) (Memᴰ.tail m) =
    absurd (clash (subst (λ w. Lt (event w) x) (sym e) (all_in (λ z. Lt (event y) (event z)) m o.0)) (irr x))
one_state x a b (y ∷ h) o (Memᴰ.tail k) (Memᴰ.head f) =
    absurd (clash (subst (λ w. Lt (event w) x) (sym f) (all_in (λ z. Lt (event y) (event z)) k o.0)) (irr x))
one_state x a b (y ∷ h) o (Memᴰ.tail k) (Memᴰ.tail m) = one_state x a b h o.1 k m

-- ---- nothing run after an unrun event

pub unmark_run : (Q : Event → State → Type 0) (x : Event) (h : List Held) → EachRun Q h → EachRun Q (unmark x h)
unfolding unmark
unmark_run Q x [] a = tt
unmark_run Q x (unrun y ∷ h) a = go (same y x) (unmark_run Q x h a)
  where
    go : (v : Bool) → EachRun Q (unmark x h) → EachRun Q (cond v (unrun y ∷ h) (unrun y ∷ unmark x h))
    go true i = a
    go false i = i
unmark_run Q x (ran y b ∷ h) a = go (same y x) (unmark_run Q x h a.1)
  where
    go : (v : Bool) → EachRun Q (unmark x h) → EachRun Q (cond v (unrun y ∷ h) (ran y b ∷ unmark x h))
    go true i = a.1
    go false i = (a.0, i)

-- a run event of another target, or not later than x, in a list that lies after x
none_run : (x : Event) (h : List Held) → NoneLater x h → All (λ z. Lt x (event z)) h → NoRun x.target h
none_run x h n a = in_run (λ z b. z.target ≢ x.target) h (λ z b m e. clash (all_in (λ w. Lt x (event w)) m a) (record { is = n z b m e }))

after_none : (x : Event) (y : Held) (h : List Held) → NoneLater x (y ∷ h) → NoneLater x h
after_none x y h n z a m e = n z a (Memᴰ.tail m) e

unmark_here : (x : Event) (b : State) (h : List Held) → unmark x (ran x b ∷ h) ≡ unrun x ∷ h
unfolding unmark
unmark_here x b h = rw (same_self x)

pub unmark_past : (x : Event) (y : Held) (h : List Held) → Lt (event y) x → unmark x (y ∷ h) ≡ y ∷ unmark x h
unfolding unmark
unmark_past x y h l = rw (same_lt l)

unmark_blocked : (x : Event) (b : State) (h : List Held) → Strict h → Blocked h → In (ran x b) h → NoneLater x h → Blocked (unmark x h)
unmark_blocked x b [] o k m n = elim m [ ]
unmark_blocked x b (y ∷ h) o k (Memᴰ.head e) n =
    subst (λ w. Blocked (unmark x (w ∷ h))) e (rw (unmark_here x b h) (none_run x h (after_none x y h n) lie, beyond y k))
  where
    lie : All (λ z. Lt x (event z)) h
    lie = subst (λ w. All (λ z. Lt (event w) (event z)) h) (sym e) o.0

    beyond : (y : Held) → Blocked (y ∷ h) → Blocked h
    beyond (unrun w) j = j.1
    beyond (ran w a) j = j
unmark_blocked x b (unrun y ∷ h) o k (Memᴰ.tail m) n =
    rw (unmark_past x (unrun y) h (all_in (λ z. Lt y (event z)) m o.0)) (unmark_run (λ z c. z.target ≢ y.target) x h k.0, unmark_blocked x b h o.1 k.1 m (after_none x (unrun y) h n))
unmark_blocked x b (ran y a ∷ h) o k (Memᴰ.tail m) n =
    rw (unmark_past x (ran y a) h (all_in (λ z. Lt y (event z)) m o.0)) (unmark_blocked x b h o.1 k m (after_none x (ran y a) h n))

delete_blocked : (x : Event) (h : List Held) → Blocked h → Blocked (delete x h)
unfolding delete
delete_blocked x [] k = tt
delete_blocked x (unrun y ∷ h) k = go (same y x) (delete_blocked x h k.1)
  where
    go : (v : Bool) → Blocked (delete x h) → Blocked (cond v h (unrun y ∷ delete x h))
    go true i = k.1
    go false i = (delete_all (λ z a. z.target ≢ y.target) x h k.0, i)
delete_blocked x (ran y b ∷ h) k = go (same y x) (delete_blocked x h k)
  where
    go : (v : Bool) → Blocked (delete x h) → Blocked (cond v h (ran y b ∷ delete x h))
    go true i = k
    go false i = i

place_blocked : (x : Event) (h : List Held) → Strict h → Clear x.target x h → Blocked h → Blocked (place x h)
unfolding place
place_blocked x [] o c k = (tt, tt)
place_blocked x (unrun y ∷ h) o c k = go (cmp y x) (place_blocked x h o.1 c k.1)
  where
    go : Cmp y x → Blocked (place x h) → Blocked (place x (unrun y ∷ h))
    go (less l) i = rw l.is (place_all (λ z a. z.target ≢ y.target) x h k.0, i)
    go (not_less l) i = rw l.is (clear_norun x.target x (unrun y ∷ h) c (l, all_map (λ z j. co (asym j) l) h o.0), k)
place_blocked x (ran y b ∷ h) o c k = go (cmp y x) (place_blocked x h o.1 c.1 k)
  where
    go : Cmp y x → Blocked (place x h) → Blocked (place x (ran y b ∷ h))
    go (less l) i = rw l.is i
    go (not_less l) i = rw l.is (clear_norun x.target x (ran y b ∷ h) c (l, all_map (λ z j. co (asym j) l) h o.0), k)

-- ---- all of it

pub unmark_neat : (p : Plan) (x : Event) (b : State) (h : List Held) → In (ran x b) h → NoneLater x h → Neat p h → Neat p (unmark x h)
unmark_neat p x b h m n k = record { strict = unmark_strict x h k.strict; blocked = unmark_blocked x b h k.strict k.blocked m n; inside = unmark_each (λ z. z.target < p.count) x h k.inside }

pub delete_neat : (p : Plan) (x : Event) (h : List Held) → Neat p h → Neat p (delete x h)
delete_neat p x h k = record { strict = delete_strict x h k.strict; blocked = delete_blocked x h k.blocked; inside = delete_each (λ z. z.target < p.count) x h k.inside }

pub place_neat : (p : Plan) (x : Event) (h : List Held) → x.target < p.count → All (λ z. Differ x (event z)) h → Clear x.target x h → Neat p h
    → Neat p (place x h)
place_neat p x h l d c k = record { strict = place_strict x h d k.strict; blocked = place_blocked x h k.strict c k.blocked; inside = place_each (λ z. z.target < p.count) x h l k.inside }

-- ---- the latest run event of a station at or after an event, found

-- an event that is run, with no later one of its target run, is the latest
pub is_latest : (s : ℕ) (x y : Event) (b : State) (h : List Held) → Strict h → In (ran y b) h → y.target ≡ s → Ge y x → NoneLater y h
    → Latest s x y b h (unmark y h)
is_latest s x y b [] o m t g n = elim m [ ]
is_latest s x y b (w ∷ h) o (Memᴰ.head e) t g n = subst (λ v. Latest s x y b (v ∷ h) (unmark y (v ∷ h))) e (rw (unmark_here y b h) (U.here t g clear))
  where
    lie : All (λ z. Lt y (event z)) h
    lie = subst (λ v. All (λ z. Lt (event v) (event z)) h) (sym e) o.0

    clear : Clear s x h
    clear =
        in_run (λ z a. z.target ≡ s → Lt z x) h
        (λ z a m f. absurd (clash (all_in (λ v. Lt y (event v)) m lie) (record { is = n z a (Memᴰ.tail m) (f ∙ sym t) })))
is_latest s x y b (unrun w ∷ h) o (Memᴰ.tail m) t g n =
    rw (unmark_past y (unrun w) h (all_in (λ z. Lt w (event z)) m o.0)) (U.past_unrun (is_latest s x y b h o.1 m t g (after_none y (unrun w) h n)))
is_latest s x y b (ran w a ∷ h) o (Memᴰ.tail m) t g n =
    rw (unmark_past y (ran w a) h (all_in (λ z. Lt w (event z)) m o.0)) (U.past_ran (is_latest s x y b h o.1 m t g (after_none y (ran w a) h n)))

-- an unrun event has no run event of its target at or after it
pub unrun_clear : (x : Event) (h : List Held) → Strict h → Blocked h → In (unrun x) h → Clear x.target x h
unrun_clear x [] o k m = elim m [ ]
unrun_clear x (unrun w ∷ h) o k (Memᴰ.head e) =
    let f : w ≡ x = cc in
    in_run (λ z a. z.target ≡ x.target → Lt z x) h (λ z a m t. absurd (run_in (λ v c. v.target ≢ w.target) z a h m k.0 (t ∙ ap (λ v. v.target) (sym f))))
unrun_clear x (unrun w ∷ h) o k (Memᴰ.tail m) = unrun_clear x h o.1 k.1 m
unrun_clear x (ran w a ∷ h) o k (Memᴰ.head e) = let z : ◌≡◌ {A = ℕ} 0 1 = cc in absurd (omega arith)
unrun_clear x (ran w a ∷ h) o k (Memᴰ.tail m) = ((λ _. all_in (λ z. Lt w (event z)) m o.0), unrun_clear x h o.1 k m)

-- where x was made unrun, no other run event is the same
pub unmark_differs : (x : Event) (b : State) (z : Event) (a : State) (h : List Held) → Strict h → In (ran x b) h → In (ran z a) (unmark x h) → Differ z x
unmark_differs x b z a [] o m i = elim m [ ]
unmark_differs x b z a (y ∷ h) o (Memᴰ.head e) m = go (rw (unmark_here x b h) at (subst (λ w. In (ran z a) (unmark x (w ∷ h))) (sym e) m))
  where
    go : In (ran z a) (unrun x ∷ h) → Differ z x
    go (Memᴰ.head f) = let k : ◌≡◌ {A = ℕ} 0 1 = cc in absurd (omega arith)
    go (Memᴰ.tail j) = snd (subst (λ w. Lt (event w) z) (sym e) (all_in (λ v. Lt (event y) (event v)) j o.0))
unmark_differs x b z a (y ∷ h) o (Memᴰ.tail k) m = go (rw (unmark_past x y h before_x) at m) (λ j. unmark_differs x b z a h o.1 k j)
  where
    before_x : Lt (event y) x
    before_x = all_in (λ v. Lt (event y) (event v)) k o.0

    go : In (ran z a) (y ∷ unmark x h) → (In (ran z a) (unmark x h) → Differ z x) → Differ z x
    go (Memᴰ.head f) ih = fst (subst (λ w. Lt (event w) x) (sym f) before_x)
    go (Memᴰ.tail j) ih = ih j

-- a run event of the target that is not later, and is another, is earlier
pub not_later : {x z : Event} → before x z ≡ false → Differ z x → Lt z x
not_later n (fst l) = l
not_later n (snd l) = absurd (clash l (record { is = n }))

-- ---- the least unrun event of a station becomes run

pub mark_each : (P : Event → Type 0) {s : ℕ} {x : Event} {h : List Held} (b : State) → First s x h → All (λ z. P (event z)) h
    → All (λ z. P (event z)) (mark s b h)
mark_each P {s} {x} b (C.here {h = h} e) a = rw (mark_this s x b h e) a
mark_each P {s} {x} b (C.past_unrun {y = w} {h = h} e f) a = rw (mark_other s w b h e) (a.0, mark_each P b f a.1)
mark_each P {s} {x} b (C.past_ran {y = w} {a = c} {h = h} f) a = rw (mark_ran s w c b h) (a.0, mark_each P b f a.1)

mark_strict : {s : ℕ} {x : Event} {h : List Held} (b : State) → First s x h → Strict h → Strict (mark s b h)
mark_strict {s} {x} b (C.here {h = h} e) o = rw (mark_this s x b h e) o
mark_strict {s} {x} b (C.past_unrun {y = w} {h = h} e f) o = rw (mark_other s w b h e) (mark_each (Lt w) b f o.0, mark_strict b f o.1)
mark_strict {s} {x} b (C.past_ran {y = w} {a = c} {h = h} f) o = rw (mark_ran s w c b h) (mark_each (Lt w) b f o.0, mark_strict b f o.1)

mark_blocked : {s : ℕ} {x : Event} {h : List Held} (b : State) → First s x h → Blocked h → Blocked (mark s b h)
mark_blocked {s} {x} b (C.here {h = h} e) k = rw (mark_this s x b h e) k.1
mark_blocked {s} {x} b (C.past_unrun {y = w} {h = h} e f) k =
    rw (mark_other s w b h e) (mark_all (λ z a. z.target ≢ w.target) b (λ i. e (sym i ∙ first_target f)) f k.0, mark_blocked b f k.1)
mark_blocked {s} {x} b (C.past_ran {y = w} {a = c} {h = h} f) k = rw (mark_ran s w c b h) (mark_blocked b f k)

pub mark_neat : (p : Plan) {s : ℕ} {x : Event} {h : List Held} (b : State) → First s x h → Neat p h → Neat p (mark s b h)
mark_neat p b f k = record { strict = mark_strict b f k.strict; blocked = mark_blocked b f k.blocked; inside = mark_each (λ z. z.target < p.count) b f k.inside }
