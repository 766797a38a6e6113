-- What an undo and a removal leave is in order again, and a replay.
use mathlib.Core.Path.{refl, subst}
use mathlib.Core.List.{List}
use Prim.Native.Nat.{suc, ◌≤◌}
use native.Mathlib.Nat.{le_refl}
use Rattle.line.specs.declared.Event.{Event}
use Rattle.line.specs.declared.State.{State}
use Rattle.line.specs.Station.{Plan, InRange, States}
use Rattle.line.proofs.Order.{irr}
use Rattle.rules.specs.Held.{Queue, In, ran, unmark}
use Rattle.rules.specs.Undo.{NoneLater}
use Rattle.rules.specs.Executable.{runs, undo_event, removing}
use Rattle.rules.specs.Replay.{insert_sorted, Replayed, Neat}
use Rattle.rules.proofs.Replay.Unmark.{Latest}
use Rattle.rules.proofs.Replay.Neat.{is_latest}
use Rattle.rules.proofs.Undo.Agree.{does_agree}
use Rattle.rules.proofs.Undo.Exist.{can, can_remove}
use Rattle.engine_rollback.proofs.TakenOut.{is_held}

-- the event e, run from b, is the latest of its station
pub latest_of : {p : Plan} (q : Queue) {e : Event} {b : State} → Neat p q.held → In (ran e b) q.held → NoneLater e q.held
    → Latest e.target e e b q.held (unmark e q.held)
latest_of {p} q {e} {b} k m n = is_latest e.target e e b q.held k.strict m refl (irr e) n

pub record Left (p : Plan) (ws : List Event) (st : States) (q r : Queue) : Type 0 where
  pub ok : Replayed p ws st r
  pub neat : Neat p r.held
  pub falls : suc (runs r.held) ≤ runs q.held

pub undo_left : {p : Plan} {ws : List Event} {st : States} {q : Queue} {e : Event} {b : State} → InRange p → Replayed p ws st q → Neat p q.held
    → In (ran e b) q.held → NoneLater e q.held → Left p ws st q (undo_event p q e.target e b (unmark e q.held))
undo_left {p} {ws} {st} {q} {e} {b} S o k m n =
    let C = (can p S (runs q.held)).one q (le_refl _) ws st o k e b m n in
    let A = does_agree p C.does k n b m in
    subst (λ r. Left p ws st q r) A.0 (record { ok = C.after.ok; neat = C.neat; falls = C.falls })

pub remove_neat : {p : Plan} (e : Event) (ws : List Event) {st : States} {q : Queue} → InRange p → Replayed p (insert_sorted e ws) st q → Neat p q.held
    → Neat p (removing p q e).held
remove_neat {p} e ws {st} {q} S o k =
    let C = can_remove p S q (insert_sorted e ws) st o k e (is_held e ws o) in
    let A = does_agree p C.1 k in
    subst (λ (r : Queue). Neat p r.held) A.0 A.1
