-- The number of events undone, as the paper counts them, is the number of times that the rule of undoing was used.
use mathlib.Core.Path.{◌≡◌, refl, ap}
use mathlib.Core.Bool.{Bool, true, false, cond}
use mathlib.Core.List.{List, [], ◌∷◌}
use Prim.Native.Nat.{ℕ, suc, ◌+◌, ◌<◌}
use native.Mathlib.Omega.{arith}
use Rattle.line.specs.declared.Event.{Event}
use Rattle.line.specs.Station.{Plan, InRange, States}
use Rattle.line.specs.Order.{Lt, Differ, fst, snd, All}
use Rattle.line.proofs.Order.{irr, differ_target, Which, this, other, which}
use Rattle.line.proofs.All.{all_map, Distinct}
use Rattle.rules.specs.Held.{Held, unrun, ran, event, Queue, same, undone, delete}
use Rattle.rules.specs.Undo.{NoneLater, Action, Undo, UndoLater, Remove, RemoveEach, Add, AddEach, Does, undo, later_none, later_next, remove_run, remove_unrun, add, remove_none, remove_next, add_none, add_next}
use Rattle.rules.specs.Executable.{runs, run_least}
use Rattle.rules.specs.Replay.{Clear, Replayed, Strict, Neat}
use Rattle.rules.proofs.Replay.Unmark.{found_runs}
use Rattle.line.proofs.Members.{all_in}
use Rattle.rules.proofs.Replay.Mark as C
use Rattle.rules.proofs.Replay.Mark.{First}
use Rattle.rules.proofs.Replay.Place.{place_runs}
use Rattle.rules.proofs.Undo.Cascade.{still_first, sends_added}
use Rattle.rules.proofs.Undo.RunFirst.{first_in}
use Rattle.rules.proofs.Replay.RunsLeft.{ran_ones, Sub, sub_refl, sub_trans, unmark_sub, delete_sub, place_sub, differ_same, undone_rest, undone_mark}
use Rattle.rules.proofs.Replay.Neat.{unmark_neat, is_latest, unrun_clear}
use Rattle.rules.proofs.Undo.Agree.{New, undoing, undone_clear, does_agree, still_new}

-- how often an event was undone
unfoldable pub undos : {p : Plan} {a : Action} {q r : Queue} → Does p a q r → ℕ
undos (undo m d) = suc (undos d)
undos (later_none n) = 0
undos (later_next l d c) = undos d + undos c
undos (remove_run m d c) = undos d + undos c
undos (remove_unrun m) = 0
undos (add d) = undos d
undos remove_none = 0
undos (remove_next d c) = undos d + undos c
undos add_none = 0
undos (add_next d c) = undos d + undos c

-- taking out an event that is not run
pub delete_same_runs : (x : Event) (h : List Held) → Clear x.target x h → runs (delete x h) ≡ runs h
unfolding delete runs
delete_same_runs x [] c = refl
delete_same_runs x (unrun y ∷ h) c = go (same y x) (delete_same_runs x h c)
  where
    go : (v : Bool) → runs (delete x h) ≡ runs h → runs (cond v h (unrun y ∷ delete x h)) ≡ runs h
    go true i = refl
    go false i = i
delete_same_runs x (ran y b ∷ h) c = rw (differ_same (differs (which y.target x.target))) (ap suc (delete_same_runs x h c.1))
  where
    differs : Which y.target x.target → Differ y x
    differs (this e _) = fst (c.0 e)
    differs (other e _) = differ_target y x e

-- what an action needs besides a neat queue
abbrev pub Feasible : Plan → Action → Queue → Type 0
Feasible p (Undo x) q = NoneLater x q.held
Feasible p (UndoLater x) q = Unit {0}
Feasible p (Remove x) q = Unit {0}
Feasible p (RemoveEach xs) q = Unit {0}
Feasible p (Add x) q = (x.target < p.count) × New x q.held
Feasible p (AddEach xs) q = All (λ x. x.target < p.count) xs × All (λ x. New x q.held) xs × Distinct xs

pub does_falls : {p : Plan} {a : Action} {q r : Queue} (d : Does p a q r) → Neat p q.held → Feasible p a q → runs q.held ≡ undos d + runs r.held
unfolding undos
does_falls {p} (undo {q = q} {x = x} {b = b} m d) k n =
    omega (arith, found_runs (is_latest x.target x x b q.held k.strict m refl (irr x) n), does_falls d (unmark_neat p x b q.held m n k) tt)
does_falls (later_none n) k f = omega arith
does_falls {p} (later_next l d c) k f = omega (arith, does_falls d k l.latest, does_falls c (does_agree p d k l.latest l.before_it l.run).1 tt)
does_falls {p} (remove_run {u = u} {x = x} m d c) k f =
    let g = does_agree p d k in
    omega (arith, does_falls d k tt, does_falls c g.2 g.1, delete_same_runs x u.held (undone_clear (undoing c) g.1 g.2))
does_falls (remove_unrun {q = q} {x = x} m) k f = omega (arith, delete_same_runs x q.held (unrun_clear x q.held k.strict k.blocked m))
does_falls (add {r = r} {x = x} d) k f = omega (arith, does_falls d k tt, place_runs x r.held)
does_falls remove_none k f = omega arith
does_falls {p} (remove_next d c) k f = omega (arith, does_falls d k tt, does_falls c (does_agree p d k).1 tt)
does_falls add_none k f = omega arith
does_falls {p} (add_next {xs = xs} d c) k f =
    omega (arith, does_falls d k (f.0.0, f.1.0), does_falls c (does_agree p d k f.0.0 f.1.0).1 (f.0.1, still_new p d xs f.2.0 f.1.1, f.2.1))

-- the run events that are left are some of those that were run
pub does_sub : {p : Plan} {a : Action} {q r : Queue} → Does p a q r → Sub (ran_ones r.held) (ran_ones q.held)
does_sub (undo {q = q} {x = x} m d) = sub_trans (does_sub d) (unmark_sub x q.held)
does_sub (later_none {q = q} n) = sub_refl (ran_ones q.held)
does_sub (later_next l d c) = sub_trans (does_sub c) (does_sub d)
does_sub (remove_run {u = u} {x = x} m d c) = sub_trans (delete_sub x u.held) (sub_trans (does_sub c) (does_sub d))
does_sub (remove_unrun {q = q} {x = x} m) = delete_sub x q.held
does_sub (add {r = r} {x = x} d) = rw (place_sub x r.held) (does_sub d)
does_sub (remove_none {q = q}) = sub_refl (ran_ones q.held)
does_sub (remove_next d c) = sub_trans (does_sub c) (does_sub d)
does_sub (add_none {q = q}) = sub_refl (ran_ones q.held)
does_sub (add_next d c) = sub_trans (does_sub c) (does_sub d)

pub ran_all : (P : Event → Type 0) (h : List Held) → All (λ z. P (event z)) h → All P (ran_ones h)
ran_all P [] a = tt
ran_all P (unrun x ∷ h) a = ran_all P h a.1
ran_all P (ran x b ∷ h) a = (a.0, ran_all P h a.1)

pub ran_distinct : (h : List Held) → Strict h → Distinct (ran_ones h)
ran_distinct [] o = tt
ran_distinct (unrun x ∷ h) o = ran_distinct h o.1
ran_distinct (ran x b ∷ h) o = (all_map (λ y l. fst l) (ran_ones h) (ran_all (Lt x) h o.0), ran_distinct h o.1)

-- post and retract
pub undone_undos : {p : Plan} {a : Action} {q r : Queue} (d : Does p a q r) → Neat p q.held → Feasible p a q → undone q.held r.held ≡ undos d
undone_undos {q = q} {r = r} d k f = omega (arith, undone_rest q.held r.held (does_sub d) (ran_distinct q.held k.strict), does_falls d k f)

-- run: its event was not run before
first_differs : {s : ℕ} {x : Event} {h : List Held} → First s x h → Strict h → All (λ y. Differ y x) (ran_ones h)
first_differs {x = x} (C.here {h = h} e) o = all_map (λ y l. snd l) (ran_ones h) (ran_all (Lt x) h o.0)
first_differs (C.past_unrun e f) o = first_differs f o.1
first_differs {x = x} (C.past_ran {y = y} f) o = (fst (all_in (λ z. Lt y (event z)) (first_in f) o.0), first_differs f o.1)

pub undone_run : (p : Plan) → InRange p → (ws : List Event) (st : States) (q : Queue) (x : Event) → Replayed p ws st q → Strict q.held
    → First x.target x q.held
    → undone q.held (run_least p q x).held + runs (run_least p q x).held ≡ suc (runs q.held)
unfolding run_least
undone_run p S ws st q x o k f =
    undone_mark q.held _ (q.states x.target) (still_first p S ws st q x f o).0 (first_differs f k) (sends_added p S ws st q x f o).sub (ran_distinct q.held k)
