-- What a station's registration says of its unrun events, and what a change of one of them makes of it.
use mathlib.Core.Path.{◌≡◌, refl, sym, ap, ◌∙◌, subst}
use mathlib.Core.Logic.{◌≢◌}
use mathlib.Core.Bool.{Bool, true, false, not, ◌&&◌}
use mathlib.Core.Option.{none as noTime}
use mathlib.Core.List.Memᴰ
use mathlib.Core.List.{List, [], ◌∷◌}
use Prim.Native.Nat.{ℕ, zero, suc, ◌+◌, ◌≤◌, ◌<◌}
use native.Mathlib.Nat.{add-zero, add-suc, suc-add}
use native.Mathlib.Omega.{arith}
use lib.ListN.{length, get_or}
use Rattle.line.specs.declared.Event.{Event}
use Rattle.line.specs.declared.State.{State}
use Rattle.line.specs.Event.{before}
use Rattle.line.specs.Order.{Lt, Ge, Differ, fst, snd}
use Rattle.line.proofs.Order.{clash, asym, later_time}
use Rattle.rules.specs.Held.{Held, unrun, ran, event, In, same, unmark, Found, none, some, least_unrun, absent, at, time_of, registered, as_time, registered_from}
use Rattle.line.proofs.Members.{all_in}
use Rattle.rules.specs.Replay.{InOrder, Blocked, Strict}
use Rattle.rules.proofs.Replay.Delete.{same_self}
use Rattle.rules.proofs.Replay.Mark as C
use Rattle.rules.proofs.Replay.Mark.{First}
use Rattle.rules.proofs.Replay.Neat.{run_in, unmark_past}
use Rattle.rules.proofs.Calls.Invariant.{least_first}
use Rattle.rules.proofs.Replay.LeastUnrun.{NoUnrun, NoneBefore, in_unrun, unrun_in, least_none, first_least, first_lowest, unrun_first}

-- ---- a registration is read off the least unrun event

pub registered_as : (s : ℕ) (h k : List Held) → least_unrun s h ≡ least_unrun s k → registered h s ≡ registered k s
unfolding registered
registered_as s h k e = ap time_of e

pub registered_at_lem : (s : ℕ) (h : List Held) (x : Event) → least_unrun s h ≡ some x → registered h s ≡ at x.time
unfolding registered time_of
registered_at_lem s h x e = rw e

pub registered_absent : (s : ℕ) (h : List Held) → NoUnrun s h → registered h s ≡ absent
unfolding registered time_of
registered_absent s h n = rw (least_none s h n)

pub first_registered : {s : ℕ} {x : Event} {h : List Held} → First s x h → registered h s ≡ at x.time
first_registered {s} {x} {h} f = registered_at_lem s h x (first_least f)

-- a registered station has a first unrun event, at its time
pub registered_first : (s : ℕ) (h : List Held) (t : ℕ) → registered h s ≡ at t → (x : Event) × First s x h × (x.time ≡ t)
unfolding registered time_of
registered_first s h t e = go (least_unrun s h) refl e
  where
    go : (l : Found) → least_unrun s h ≡ l → time_of l ≡ at t → (x : Event) × First s x h × (x.time ≡ t)
    go none k f = let z : ◌≡◌ {A = ℕ} 0 1 = cc in absurd (omega arith)
    go (some x) k f = (x, least_first s h x k, (cc))

-- the station of an unrun event is registered, and not later than the event
pub unrun_registered : (z : Event) (h : List Held) → InOrder h → In (unrun z) h → (t : ℕ) × (registered h z.target ≡ at t) × (t ≤ z.time)
unrun_registered z h o m =
    let r = unrun_first z h m in
    (r.0.time, first_registered r.1, later_time (unrun_in (λ y. y.target ≡ z.target → Ge y r.0) z h m (first_lowest r.1 o) refl))

-- ---- a run event becomes unrun

unmark_this : (x : Event) (b : State) (h : List Held) → unmark x (ran x b ∷ h) ≡ unrun x ∷ h
unfolding unmark
unmark_this x b h = rw (same_self x)

pub unmark_first : (x : Event) (b : State) (h : List Held) → Strict h → In (ran x b) h → NoneBefore x.target x h → First x.target x (unmark x h)
unmark_first x b [] o m a = elim m [ ]
unmark_first x b (y ∷ h) o (Memᴰ.head e) a = subst (λ v. First x.target x (unmark x (v ∷ h))) e (rw (unmark_this x b h) (C.here refl))
unmark_first x b (unrun y ∷ h) o (Memᴰ.tail m) a =
    let l : Lt y x = all_in (λ z. Lt y (event z)) m o.0 in
    rw (unmark_past x (unrun y) h l) (C.past_unrun (λ e. clash l (a.0 e)) (unmark_first x b h o.1 m a.1))
unmark_first x b (ran y c ∷ h) o (Memᴰ.tail m) a =
    let l : Lt y x = all_in (λ z. Lt y (event z)) m o.0 in
    rw (unmark_past x (ran y c) h l) (C.past_ran (unmark_first x b h o.1 m a))

-- so it is where nothing of a station is run after an unrun event of it
pub run_none_before : (x : Event) (b : State) (h : List Held) → Strict h → Blocked h → In (ran x b) h → NoneBefore x.target x h
run_none_before x b [] o k m = elim m [ ]
run_none_before x b (ran y c ∷ h) o k (Memᴰ.head e) =
    let q : y ≡ x = cc in
    in_unrun (λ z. z.target ≡ x.target → Ge z x) h (λ z m _. asym (subst (λ v. Lt v z) q (all_in (λ v. Lt y (event v)) m o.0)))
run_none_before x b (unrun y ∷ h) o k (Memᴰ.head e) = let z : ◌≡◌ {A = ℕ} 0 1 = cc in absurd (omega arith)
run_none_before x b (ran y c ∷ h) o k (Memᴰ.tail m) = run_none_before x b h o.1 k m
run_none_before x b (unrun y ∷ h) o k (Memᴰ.tail m) =
    ((λ e. absurd (run_in (λ z c. z.target ≢ y.target) x b h m k.0 (sym e))), run_none_before x b h o.1 k.1 m)

-- ---- an unrun event is taken out

pub differ_same : {y x : Event} → Differ y x → same y x ≡ false
unfolding same
differ_same (fst l) = rw l.is
differ_same {y} {x} (snd l) = go (before y x)
  where
    go : (v : Bool) → (not v && not (before x y)) ≡ false
    go true = refl
    go false = rw l.is

-- ---- the registered times of all stations, as one list

pub from_length : (h : List Held) (s n : ℕ) → length (registered_from h s n) ≡ n
unfolding registered_from
from_length h s zero = refl
from_length h s (suc n) = ap suc (from_length h (suc s) n)

pub from_at : (h : List Held) (s n i : ℕ) → i < n → get_or (registered_from h s n) i noTime ≡ as_time (registered h (s + i))
unfolding registered_from
from_at h s zero i l = absurd (omega arith)
from_at h s (suc n) zero l = rw add-zero
from_at h s (suc n) (suc i) l = from_at h (suc s) n i (omega arith) ∙ ap (λ t. as_time (registered h t)) (suc-add s i ∙ sym (add-suc s i))
