-- What the rules of specs/Undo say of a neat queue is what the functions compute: so the rules leave one queue.
use mathlib.Core.Path.{◌≡◌, refl, sym, ap, ◌∙◌}
use mathlib.Core.Logic.{◌⊎◌, inl, inr}
use mathlib.Core.Bool.{cond, not, ◌&&◌}
use mathlib.Core.List.{List, [], ◌∷◌}
use Prim.Native.Nat.{ℕ, ◌<◌}
use native.Mathlib.Omega.{arith}
use lib.Dec.{eqb}
use Rattle.line.specs.declared.Event.{Event}
use Rattle.line.specs.declared.State.{State}
use Rattle.line.specs.Event.{before}
use Rattle.line.specs.Station.{Plan, update, run_event}
use Rattle.line.specs.Order.{Lt, Differ, All}
use Rattle.line.proofs.Order.{differ_sym, asym, irr, Which, this, other, which}
use Rattle.line.proofs.All.{Distinct}
use Rattle.rules.specs.Held.{Held, unrun, ran, event, Queue, In, unmark, delete, place}
use Rattle.rules.specs.Undo.{NoneLater, Action, Undo, UndoLater, Remove, RemoveEach, Add, AddEach, Does, undo, later_none, later_next, remove_run, remove_unrun, add, remove_none, remove_next, add_none, add_next}
use Rattle.rules.specs.Executable as F
use Rattle.rules.specs.Executable.{nothing, found, beyond, or_this, latest, undo_from, remove_all, undo_event, add_all}
use Rattle.rules.specs.Replay.{Clear, Neat}
use Rattle.rules.proofs.Replay.Unmark as U
use Rattle.rules.proofs.Replay.Unmark.{Latest}
use Rattle.rules.proofs.Replay.EntriesKept.{delete_in, place_in}
use Rattle.rules.proofs.Undo.Fuel.{undo_none, undo_some}
use Rattle.line.proofs.Members.{all_in}
use Rattle.rules.proofs.Replay.Neat.{in_run, one_state, unmark_each, delete_each, place_each, unmark_run, run_in, unmark_neat, delete_neat, place_neat, is_latest, unrun_clear, unmark_differs, not_later}

-- ---- the search for the latest run event

pub clear_none : (s : ℕ) (x : Event) (h : List Held) → Clear s x h → latest s x h ≡ nothing
unfolding latest beyond or_this
clear_none s x [] c = refl
clear_none s x (unrun y ∷ h) c = rw (clear_none s x h c)
clear_none s x (ran y a ∷ h) c = rw (clear_none s x h c.1) (go (which y.target s))
  where
    go : Which y.target s → cond (eqb y.target s && not (before y x)) (found y a (unrun y ∷ h)) nothing ≡ nothing
    go (this e t) = rw (t, (c.0 e).is)
    go (other e t) = rw t

pub latest_found : {s : ℕ} {x e : Event} {b : State} {h k : List Held} → Latest s x e b h k → latest s x h ≡ found e b k
unfolding latest beyond or_this
latest_found {s} {x} {e} {b} (U.here {h = h} q g c) = rw (clear_none s x h c) (go (which e.target s))
  where
    go : Which e.target s → cond (eqb e.target s && not (before e x)) (found e b (unrun e ∷ h)) nothing ≡ found e b (unrun e ∷ h)
    go (this i t) = rw (t, g.is)
    go (other i t) = absurd (i q)
latest_found (U.past_unrun f) = rw (latest_found f)
latest_found (U.past_ran f) = rw (latest_found f)

-- ---- what every action leaves: no new events but the added ones, and no new run events

abbrev Brings : (Event → Type 0) → Action → Type 0
Brings P (Undo x) = Unit {0}
Brings P (UndoLater x) = Unit {0}
Brings P (Remove x) = Unit {0}
Brings P (RemoveEach xs) = Unit {0}
Brings P (Add x) = P x
Brings P (AddEach xs) = All P xs

pub does_each : {p : Plan} {a : Action} {q r : Queue} (P : Event → Type 0) → Does p a q r → Brings P a → All (λ z. P (event z)) q.held
    → All (λ z. P (event z)) r.held
does_each P (undo {q = q} {x = x} m d) b h = does_each P d tt (unmark_each P x q.held h)
does_each P (later_none n) b h = h
does_each P (later_next l d c) b h = does_each P c tt (does_each P d tt h)
does_each P (remove_run {u = u} {x = x} m d c) b h = delete_each P x u.held (does_each P c tt (does_each P d tt h))
does_each P (remove_unrun {q = q} {x = x} m) b h = delete_each P x q.held h
does_each P (add {r = r} {x = x} d) b h = place_each P x r.held b (does_each P d tt h)
does_each P remove_none b h = h
does_each P (remove_next d c) b h = does_each P c tt (does_each P d tt h)
does_each P add_none b h = h
does_each P (add_next d c) b h = does_each P c b.1 (does_each P d b.0 h)

place_run : (z : Event) (a : State) (x : Event) (h : List Held) → In (ran z a) (place x h) → In (ran z a) h
place_run z a x h m = go (place_in (ran z a) x h m)
  where
    go : In (ran z a) h ⊎ (ran z a ≡ unrun x) → In (ran z a) h
    go (inl k) = k
    go (inr e) = let k : ◌≡◌ {A = ℕ} 0 1 = cc in absurd (omega arith)

unmark_in : (z : Event) (a : State) (x : Event) (h : List Held) → In (ran z a) (unmark x h) → In (ran z a) h
unmark_in z a x h m = run_in (λ y b. In (ran y b) h) z a (unmark x h) m (unmark_run (λ y b. In (ran y b) h) x h (in_run (λ y b. In (ran y b) h) h (λ y b k. k)))

pub does_run : {p : Plan} {a : Action} {q r : Queue} (z : Event) (b : State) → Does p a q r → In (ran z b) r.held → In (ran z b) q.held
does_run z b (undo {q = q} {x = x} m d) k = unmark_in z b x q.held (does_run z b d k)
does_run z b (later_none n) k = k
does_run z b (later_next l d c) k = does_run z b d (does_run z b c k)
does_run z b (remove_run {u = u} {x = x} m d c) k = does_run z b d (does_run z b c (delete_in (ran z b) x u.held k))
does_run z b (remove_unrun {q = q} {x = x} m) k = delete_in (ran z b) x q.held k
does_run z b (add {r = r} {x = x} d) k = does_run z b d (place_run z b x r.held k)
does_run z b remove_none k = k
does_run z b (remove_next d c) k = does_run z b d (does_run z b c k)
does_run z b add_none k = k
does_run z b (add_next d c) k = does_run z b d (does_run z b c k)

-- ---- the rules and the functions

-- an undo is of a run event
pub record Undoing (p : Plan) (x : Event) (q r : Queue) : Type 0 where
  pub before_it : State
  pub run : In (ran x before_it) q.held
  pub rest : Does p (RemoveEach (run_event p before_it x).sends) (record { states = update q.states x.target before_it; held = unmark x q.held }) r

pub undoing : {p : Plan} {x : Event} {q r : Queue} → Does p (Undo x) q r → Undoing p x q r
undoing (undo {b = b} m d) = record { before_it = b; run = m; rest = d }

-- after it nothing of its target is run from it on
pub undone_clear : {p : Plan} {x : Event} {r u : Queue} → Undoing p x r u → NoneLater x r.held → Neat p r.held → Clear x.target x u.held
undone_clear {x = x} {r = r} {u = u} v n o =
    in_run (λ z a. z.target ≡ x.target → Lt z x) u.held
    (λ z a w e. let f = does_run z a v.rest w in not_later (n z a (unmark_in z a x r.held f) e) (unmark_differs x v.before_it z a r.held o.strict v.run f))

-- x differs from all that is held
abbrev pub New : Event → List Held → Type 0
New x h = All (λ z. Differ x (event z)) h

abbrev pub Agrees : Plan → Action → Queue → Queue → Type 0
Agrees p (Undo x) q r = NoneLater x q.held → (b : State) → In (ran x b) q.held → (r ≡ undo_event p q x.target x b (unmark x q.held)) × Neat p r.held
Agrees p (UndoLater x) q r = (undo_from p q x.target x ≡ undo_from p r x.target x) × NoneLater x r.held × Neat p r.held
Agrees p (Remove x) q r = (r ≡ F.removing p q x) × Neat p r.held
Agrees p (RemoveEach xs) q r = (r ≡ remove_all p xs q) × Neat p r.held
Agrees p (Add x) q r = x.target < p.count → New x q.held → (r ≡ F.adding p q x) × Neat p r.held
Agrees p (AddEach xs) q r = All (λ x. x.target < p.count) xs → All (λ x. New x q.held) xs → Distinct xs → (r ≡ add_all p xs q) × Neat p r.held

module _ (p : Plan) where
  -- undoing y, the latest run event of s at or after x, is one turn of undoing from x on
  one_turn : (q r : Queue) (s : ℕ) (x y : Event) (b : State) → y.target ≡ s → Latest s x y b q.held (unmark y q.held)
      → r ≡ undo_event p q y.target y b (unmark y q.held) → undo_from p q s x ≡ undo_from p r s x
  one_turn q r s x y b t l e =
      undo_some p q s x y b (unmark y q.held) (latest_found l)
      ∙ ap (λ k. undo_from p k s x) (ap (λ u. undo_event p q u y b (unmark y q.held)) (sym t) ∙ sym e)

  -- events that differ from an added one and were new still are
  pub still_new : {x : Event} {q r : Queue} → Does p (Add x) q r → (ys : List Event) → All (Differ x) ys → All (λ y. New y q.held) ys
      → All (λ y. New y r.held) ys
  still_new d [] a b = tt
  still_new d (y ∷ ys) a b = (does_each (Differ y) d (differ_sym a.0) b.0, still_new d ys a.1 b.1)

  cut : Event → Queue → Queue
  cut x r = record { states = r.states; held = delete x r.held }

  put : Event → Queue → Queue
  put x r = record { states = r.states; held = place x r.held }

  pub does_agree : {a : Action} {q r : Queue} → Does p a q r → Neat p q.held → Agrees p a q r
  unfolding undo_event remove_all add_all F.removing F.adding cut put
  does_agree (undo {q = q} {r = r} {x = x} {b = c} m d) k = λ n b w.
      let e : c ≡ b = one_state x c b q.held k.strict m w in
      let i = does_agree d (unmark_neat p x c q.held m n k) in
      (i.0 ∙ ap (λ a. remove_all p (run_event p a x).sends (record { states = update q.states x.target a; held = unmark x q.held })) e, i.1)
  does_agree (later_none n) k = (refl, n, k)
  does_agree (later_next {q = q} {r = r} {u = u} {x = x} {y = y} l d c) k =
      let i = does_agree d k l.latest l.before_it l.run in
      let j = does_agree c i.1 in
      (one_turn q r x.target x y l.before_it l.target_is (is_latest x.target x y l.before_it q.held k.strict l.run l.target_is (asym (record { is = l.later })) l.latest) i.0 ∙ j.0, j.1, j.2)
  does_agree (remove_run {q = q} {r = r} {u = u} {x = x} m d c) k =
      let i = does_agree d k in
      let v = undoing c in
      let j = does_agree c i.2 i.1 v.before_it v.run in
      (ap (cut x) (sym (i.0 ∙ one_turn r u x.target x x v.before_it refl (is_latest x.target x x v.before_it r.held i.2.strict v.run refl (irr x) i.1) j.0 ∙ undo_none p u x.target x (clear_none x.target x u.held (undone_clear v i.1 i.2)))), delete_neat p x u.held j.1)
  does_agree (remove_unrun {q = q} {x = x} m) k =
      (ap (cut x) (sym (undo_none p q x.target x (clear_none x.target x q.held (unrun_clear x q.held k.strict k.blocked m)))), delete_neat p x q.held k)
  does_agree (add {q = q} {r = r} {x = x} d) k = λ t w.
      let i = does_agree d k in
      let g : New x r.held = does_each (Differ x) d tt w in
      let c : Clear x.target x r.held =
      in_run (λ z a. z.target ≡ x.target → Lt z x) r.held
      (λ z a m e. not_later (i.1 z a m e) (differ_sym (all_in (λ v. Differ x (event v)) m g))) in
      (ap (put x) (sym (i.0 ∙ undo_none p r x.target x (clear_none x.target x r.held c))), place_neat p x r.held t g c i.2)
  does_agree remove_none k = (refl, k)
  does_agree (remove_next {x = x} {xs = xs} d c) k =
      let i = does_agree d k in
      let j = does_agree c i.1 in
      (j.0 ∙ ap (remove_all p xs) i.0, j.1)
  does_agree add_none k = λ t w o. (refl, k)
  does_agree (add_next {x = x} {xs = xs} d c) k = λ t w o.
      let i = does_agree d k t.0 w.0 in
      let j = does_agree c i.1 t.1 (still_new d xs o.0 w.1) o.1 in
      (j.0 ∙ ap (add_all p xs) i.0, j.1)
