-- The latest run event of a station becomes unrun, and its sends become waiting events of the machine: the invariant holds again (`undo-replay`).
use mathlib.Core.Path.{◌≡◌, refl, sym, ap, ◌∙◌, subst}
use mathlib.Core.Logic.{◌≢◌}
use mathlib.Core.Bool.{cond, not, ◌&&◌}
use mathlib.Core.List.{List, [], ◌∷◌}
use Prim.Native.Nat.{ℕ, suc, ◌≤◌, ◌<◌}
use native.Mathlib.Nat.{le_refl, le_trans}
use lib.Dec.{eqb}
use Rattle.line.specs.declared.Event.{Event}
use Rattle.line.specs.Event.{before}
use Rattle.rules.specs.Replay.{insert_all_sorted, EachRun, NoRun, Replay, Above, InOrder, Clear}
use Rattle.rules.proofs.Machine.Insert.{Disjoint, all_all, all_head}
use Rattle.line.proofs.Order.{Which, this, other, which, Cmp, less, not_less, cmp, co, clash, ge_lt}
use Rattle.rules.proofs.Update.{update_same, update_at, update_other}
use Rattle.line.specs.Station.{Plan, InRange, States, update}
use Rattle.line.specs.declared.State.{State}
use Rattle.rules.specs.Held.{Held, unrun, ran}
use Rattle.rules.specs.Executable.{Search, nothing, found, beyond, or_this, latest, runs}
use Rattle.line.specs.Order.{Lt, Ge, All}
use Rattle.line.proofs.All.{all_map}
use Rattle.rules.proofs.Replay.Replay.{sends_of, after_of, sends_later, grows, disjoint, elsewhere}

-- ---- `latest`, seen as a relation: e, run from b, is the latest run event of s at or after x, and h' is h with e unrun

pub data Latest (s : ℕ) (x : Event) (e : Event) (b : State) : List Held → List Held → Type 0 where
  here : {h : List Held} → e.target ≡ s → Ge e x → Clear s x h → Latest s x e b (ran e b ∷ h) (unrun e ∷ h)
  past_unrun : {y : Event} {h h' : List Held} → Latest s x e b h h' → Latest s x e b (unrun y ∷ h) (unrun y ∷ h')
  past_ran : {y : Event} {a : State} {h h' : List Held} → Latest s x e b h h' → Latest s x e b (ran y a ∷ h) (ran y a ∷ h')

abbrev pub View : ℕ → Event → List Held → Search → Type 0
View s x h nothing = Clear s x h
View s x h (found e b h') = Latest s x e b h h'

view_after : (s : ℕ) (x y : Event) (h : List Held) (l : Search) → View s x h l → View s x (unrun y ∷ h) (beyond (unrun y) l)
unfolding beyond
view_after s x y h nothing v = v
view_after s x y h (found e b h') v = past_unrun v

view_or : (s : ℕ) (x y : Event) (a : State) (h : List Held) (l : Search) → View s x h l → View s x (ran y a ∷ h) (or_this s x y a h l)
unfolding or_this
view_or s x y a h nothing v = go (which y.target s) (cmp y x)
  where
    go : Which y.target s → Cmp y x → View s x (ran y a ∷ h) (cond (eqb y.target s && not (before y x)) (found y a (unrun y ∷ h)) nothing)
    go (this e t) (less k) = rw (t, k.is) ((λ _. k), v)
    go (this e t) (not_less k) = rw (t, k.is) (here e k v)
    go (other e t) c = rw t ((λ q. absurd (e q)), v)
view_or s x y a h (found e b h') v = past_ran v

pub latest_view : (s : ℕ) (x : Event) (h : List Held) → View s x h (latest s x h)
unfolding latest
latest_view s x [] = tt
latest_view s x (unrun y ∷ h) = view_after s x y h (latest s x h) (latest_view s x h)
latest_view s x (ran y a ∷ h) = view_or s x y a h (latest s x h) (latest_view s x h)

-- ---- what an undo keeps

pub found_above : {s : ℕ} {x e : Event} {b : State} {h h' : List Held} (z : Event) → Latest s x e b h h' → Above z h → Above z h'
found_above z (here t g c) a = a
found_above z (past_unrun f) a = (a.0, found_above z f a.1)
found_above z (past_ran f) a = (a.0, found_above z f a.1)

pub found_sorted : {s : ℕ} {x e : Event} {b : State} {h h' : List Held} → Latest s x e b h h' → InOrder h → InOrder h'
found_sorted (here t g c) o = o
found_sorted (past_unrun {y = y} f) o = (found_above y f o.0, found_sorted f o.1)
found_sorted (past_ran {y = y} f) o = (found_above y f o.0, found_sorted f o.1)

-- what holds of every run event still does
pub found_all : {s : ℕ} {x e : Event} {b : State} {h h' : List Held} (Q : Event → State → Type 0) → Latest s x e b h h' → EachRun Q h → EachRun Q h'
found_all Q (here q g c) n = n.1
found_all Q (past_unrun f) n = found_all Q f n
found_all Q (past_ran f) n = (n.0, found_all Q f n.1)

pub found_runs : {s : ℕ} {x e : Event} {b : State} {h h' : List Held} → Latest s x e b h h' → runs h ≡ suc (runs h')
unfolding runs
found_runs (here q g c) = refl
found_runs (past_unrun f) = found_runs f
found_runs (past_ran f) = ap suc (found_runs f)

-- the event found is of s, at or after x, and held
pub found_target : {s : ℕ} {x e : Event} {b : State} {h h' : List Held} → Latest s x e b h h' → e.target ≡ s
found_target (here q g c) = q
found_target (past_unrun f) = found_target f
found_target (past_ran f) = found_target f

pub found_ge : {s : ℕ} {x e : Event} {b : State} {h h' : List Held} → Latest s x e b h h' → Ge e x
found_ge (here q g c) = g
found_ge (past_unrun f) = found_ge f
found_ge (past_ran f) = found_ge f

pub found_held : {s : ℕ} {x e : Event} {b : State} {h h' : List Held} (z : Event) → Latest s x e b h h' → Above z h → Ge e z
found_held z (here q g c) a = a.0
found_held z (past_unrun f) a = found_held z f a.1
found_held z (past_ran f) a = found_held z f a.1

-- nothing of s is run from x on, and all is at or after x: nothing of s is run
pub clear_norun : (s : ℕ) (x : Event) (h : List Held) → Clear s x h → Above x h → NoRun s h
clear_norun s x [] c a = tt
clear_norun s x (unrun y ∷ h) c a = clear_norun s x h c a.1
clear_norun s x (ran y b ∷ h) c a = ((λ q. clash (c.0 q) a.0), clear_norun s x h c.1 a.1)

pub above_trans : {y z : Event} (h : List Held) → Ge y z → Above y h → Above z h
above_trans h g a = all_map (λ w k. co k g) h a

module _ (p : Plan) (S : InRange p) where
  pub found_small : (s : ℕ) (x e : Event) (b : State) {h h' : List Held} (ws : List Event) (st cur : States) → Latest s x e b h h'
      → Replay p ws st cur h → e.target < p.count
  found_small s x e b ws st cur (here q g c) r = r.2
  found_small s x e b ws st cur (past_unrun f) r = found_small s x e b r.0 st cur f r.4
  found_small s x e b ws st cur (past_ran {y = y} {a = a} f) r =
      found_small s x e b (insert_all_sorted (sends_of p a y) r.0) (update st y.target (after_of p a y)) cur f r.4

  pub found_sent : (s : ℕ) (x e : Event) (b : State) {h h' : List Held} (ws : List Event) (st cur : States) → Latest s x e b h h'
      → Replay p ws st cur h → (st s).sent ≤ b.sent
  found_sent s x e b ws st cur (here q g c) r = rw (r.3, q) (le_refl _)
  found_sent s x e b ws st cur (past_unrun f) r = found_sent s x e b r.0 st cur f r.4
  found_sent s x e b ws st cur (past_ran {y = y} {a = a} f) r =
      le_trans (grows p S st a y r.2 r.3 s) (found_sent s x e b (insert_all_sorted (sends_of p a y) r.0) (update st y.target (after_of p a y)) cur f r.4)

  -- a run event becomes unrun
  pub undo_replay : (s : ℕ) (x e : Event) (b : State) {h h' : List Held} (ws : List Event) (st cur : States) → Latest s x e b h h' → InOrder h
      → Replay p ws st cur h
      → Replay p (insert_all_sorted (sends_of p b e) ws) st (update cur s b) h'
  undo_replay s x e b ws st cur (here {h = h} q g c) o r = (
    insert_all_sorted (sends_of p b e) r.0,
    ap (insert_all_sorted (sends_of p b e)) r.1 ∙ all_head e (sends_of p b e) r.0 (sends_later p S b e r.2),
    r.2,
    none_left,
    elsewhere p S s (insert_all_sorted (sends_of p b e) r.0) (update st e.target (after_of p b e)) st cur (update cur s b) h (subst (λ t. NoRun t h) q none_left)
        (λ t k. update_other st (after_of p b e) (λ j. k (j ∙ q))) (λ t k. sym (update_other cur b k)) (update_same cur s b ∙ r.3 ∙ ap st q) r.4,
  )
    where
      none_left : NoRun e.target h
      none_left = rw q (clear_norun s x h c (above_trans h g o.0))
  undo_replay s x e b ws st cur (past_unrun {y = y} {h = h} f) o r = (
    insert_all_sorted (sends_of p b e) r.0,
    ap (insert_all_sorted (sends_of p b e)) r.1 ∙ all_head y (sends_of p b e) r.0 later,
    r.2,
    found_all (λ x b. x.target ≢ y.target) f r.3,
    undo_replay s x e b r.0 st cur f o.1 r.4,
  )
    where
      small : e.target < p.count
      small = found_small s x e b r.0 st cur f r.4

      later : All (Lt y) (sends_of p b e)
      later = all_map (λ z k. ge_lt (found_held y f o.0) k) (sends_of p b e) (sends_later p S b e small)
  undo_replay s x e b ws st cur (past_ran {y = y} {a = a} {h = h} {h' = h'} f) o r = (
    insert_all_sorted (sends_of p b e) r.0,
    ap (insert_all_sorted (sends_of p b e)) r.1 ∙ all_head y (sends_of p b e) r.0 later,
    r.2,
    r.3,
    subst (λ l. Replay p l st' (update cur s b) h') (all_all (sends_of p b e) (sends_of p a y) r.0 apart)
        (undo_replay s x e b (insert_all_sorted (sends_of p a y) r.0) st' cur f o.1 r.4),
  )
    where
      st' : States
      st' = update st y.target (after_of p a y)

      small : e.target < p.count
      small = found_small s x e b (insert_all_sorted (sends_of p a y) r.0) st' cur f r.4

      later : All (Lt y) (sends_of p b e)
      later = all_map (λ z k. ge_lt (found_held y f o.0) k) (sends_of p b e) (sends_later p S b e small)

      bound : (st' s).sent ≤ b.sent
      bound = found_sent s x e b (insert_all_sorted (sends_of p a y) r.0) st' cur f r.4

      apart : Disjoint (sends_of p b e) (sends_of p a y)
      apart = disjoint p S y e a b r.2 small (λ q. rw (update_at st (after_of p a y) (sym (found_target f) ∙ sym q)) at bound)
