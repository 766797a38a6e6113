-- The held events never outgrow the capacity: undoing holds no more events, and an accepted call has found room for what it adds.
use mathlib.Core.Path.{◌≡◌, refl, ap}
use mathlib.Core.Bool.{Bool, true, false, cond}
use mathlib.Core.List.{List, [], ◌∷◌}
use Prim.Native.Nat.{ℕ, suc, ◌+◌, ◌≤◌}
use native.Mathlib.Nat.{le_refl, le_trans}
use native.Mathlib.Omega.{arith}
use lib.Dec.{ltb, eqb}
use lib.ListN.{length}
use Rattle.refusal.specs.Tests.{accepted, judged}
use Rattle.line.specs.declared.Event.{Event}
use Rattle.line.specs.declared.State.{State}
use Rattle.line.specs.Event.{before}
use Rattle.line.specs.Station.{Plan, run_event}
use Rattle.rules.specs.Held.{Held, unrun, ran, event, Queue, same, unmark, delete, place, some, least_unrun, mark, kept}
use Rattle.rules.specs.Undo.{Action, Undo, UndoLater, Remove, RemoveEach, Add, AddEach, Does, undo, later_none, later_next, remove_run, remove_unrun, add, remove_none, remove_next, add_none, add_next}
use Rattle.rules.specs.Engine.{Setting, Engine, opened, Call, Post, RunStation, Answer}
use Rattle.rules.specs.Checks.{free, run_too_few, checks}
use Rattle.rules.specs.Calls.{with, running, Answers, refuse, post, retract, run, lowest, lowest_refused, commit, recorded}
use Rattle.rules.specs.Demand.{Made, Calls, end, next}
use Rattle.refusal.proofs.CheckingOrder.{not_holding}
use Rattle.rules.proofs.Calls.Step.{le_of}

unmark_length : (x : Event) (h : List Held) → length (unmark x h) ≡ length h
unfolding unmark
unmark_length x [] = refl
unmark_length x (y ∷ h) = go (same (event y) x) (unmark_length x h)
  where
    go : (v : Bool) → length (unmark x h) ≡ length h → length (cond v (unrun (event y) ∷ h) (y ∷ unmark x h)) ≡ suc (length h)
    go true i = refl
    go false i = ap suc i

delete_length : (x : Event) (h : List Held) → length (delete x h) ≤ length h
unfolding delete
delete_length x [] = le_refl _
delete_length x (y ∷ h) = go (same (event y) x) (delete_length x h)
  where
    go : (v : Bool) → length (delete x h) ≤ length h → length (cond v h (y ∷ delete x h)) ≤ suc (length h)
    go true i = omega arith
    go false i = omega arith

place_length : (x : Event) (h : List Held) → length (place x h) ≡ suc (length h)
unfolding place
place_length x [] = refl
place_length x (y ∷ h) = go (before (event y) x) (place_length x h)
  where
    go : (v : Bool) → length (place x h) ≡ suc (length h) → length (cond v (y ∷ place x h) (unrun x ∷ y ∷ h)) ≡ suc (suc (length h))
    go true i = ap suc i
    go false i = refl

mark_length : (s : ℕ) (b : State) (h : List Held) → length (mark s b h) ≡ length h
unfolding mark
mark_length s b [] = refl
mark_length s b (ran x a ∷ h) = ap suc (mark_length s b h)
mark_length s b (unrun x ∷ h) = go (eqb x.target s) (mark_length s b h)
  where
    go : (v : Bool) → length (mark s b h) ≡ length h → length (cond v (ran x b ∷ h) (unrun x ∷ mark s b h)) ≡ suc (length h)
    go true i = refl
    go false i = ap suc i

kept_length : (c : ℕ) (h : List Held) → length (kept c h) ≤ length h
unfolding kept
kept_length c [] = le_refl _
kept_length c (y ∷ h) = go (ltb (event y).time c) (kept_length c h)
  where
    go : (v : Bool) → length (kept c h) ≤ length h → length (cond v (kept c h) (y ∷ kept c h)) ≤ suc (length h)
    go true i = omega arith
    go false i = omega arith

-- how many events an action adds
abbrev added : Action → ℕ
added (Undo x) = 0
added (UndoLater x) = 0
added (Remove x) = 0
added (RemoveEach xs) = 0
added (Add x) = 1
added (AddEach xs) = length xs

pub does_length : {p : Plan} {a : Action} {q r : Queue} → Does p a q r → length r.held ≤ length q.held + added a
does_length (undo {q = q} {x = x} m d) = omega (arith, does_length d, unmark_length x q.held)
does_length (later_none n) = omega arith
does_length (later_next l d c) = omega (arith, does_length d, does_length c)
does_length (remove_run {u = u} {x = x} m d c) = omega (arith, delete_length x u.held, does_length d, does_length c)
does_length (remove_unrun {q = q} {x = x} m) = omega (arith, delete_length x q.held)
does_length (add {r = r} {x = x} d) = omega (arith, place_length x r.held, does_length d)
does_length remove_none = omega arith
does_length (remove_next d c) = omega (arith, does_length d, does_length c)
does_length add_none = omega arith
does_length (add_next d c) = omega (arith, does_length d, does_length c)

-- the held events fit
abbrev pub Room : Engine → Type 0
Room e = length e.queue.held ≤ e.setting.capacity

post_room : (p : Plan) (e : Engine) (s t kind value : ℕ) → judged (checks p e (Post s t kind value)) ≡ accepted → 1 ≤ free e
unfolding checks judged
post_room p e s t kind value j =
    let a = not_holding _ 9 _ j in
    let b = not_holding _ 10 _ a.1 in
    let c = not_holding _ 11 _ b.1 in
    let d = not_holding _ 12 _ c.1 in
    let f = not_holding _ 16 _ d.1 in
    le_of 1 (free e) (not_holding _ 17 _ f.1).0

run_room : (p : Plan) (e : Engine) (s : ℕ) (x : Event) → judged (checks p e (RunStation s)) ≡ accepted → least_unrun s e.queue.held ≡ some x
    → length (run_event p (e.queue.states x.target) x).sends ≤ free e
unfolding checks judged
run_room p e s x j k =
    let a = not_holding _ 9 _ j in
    let b = not_holding _ 14 _ a.1 in
    let c = not_holding _ 16 _ b.1 in
    le_of (length (run_event p (e.queue.states x.target) x).sends) (free e) (rw k at (not_holding (run_too_few p e (least_unrun s e.queue.held)) 17 _ c.1).0)

answers_room : {p : Plan} {e f : Engine} {c : Call} {a : Answer} → Answers p e c a f → Room e → Room f
unfolding with running
answers_room (refuse j) r = r
answers_room {p} (post {e = e} {s = s} {t = t} {kind = kind} {value = value} j m d) r = omega (arith, does_length d, post_room p e s t kind value j)
answers_room (retract j m d) r = omega (arith, does_length d)
answers_room {p} (run {e = e} {s = s} {x = x} j m d) r =
    omega (arith, does_length d, mark_length x.target (e.queue.states x.target) e.queue.held, run_room p e s x j m)
answers_room (lowest l d) r = answers_room d r
answers_room (lowest_refused l d) r = answers_room d r
answers_room (commit {e = e} {c = c} j) r = le_trans (kept_length c e.queue.held) r
answers_room (recorded j) r = r

calls_room : {p : Plan} {e f : Engine} {ms : List Made} → Calls p e ms f → Room e → Room f
calls_room end r = r
calls_room (next d c) r = calls_room c (answers_room d r)

pub held_fit : {p : Plan} (setting : Setting) {ms : List Made} {f : Engine} → Calls p (opened p setting) ms f → Room f
unfolding opened
held_fit setting c = calls_room c (omega arith)
