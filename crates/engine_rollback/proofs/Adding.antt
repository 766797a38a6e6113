-- An event is added: undoing its target's run events from it on brings no event and leaves room, so the queue takes it.
use mathlib.Core.Path.{◌≡◌, refl, sym, ap, ◌∙◌, subst}
use mathlib.Core.Bool.{Bool, true, false, true≢false}
use mathlib.Core.List.{List, ◌∷◌}
use Prim.Native.Nat.{ℕ, ◌+◌, ◌≤◌, ◌<◌}
use native.Mathlib.Nat.{le_refl}
use native.Mathlib.Omega.{arith}
use lib.ListN.{length}
use Rattle.refusal.specs.Tests.{horizon}
use Rattle.line.specs.declared.Event.{Event}
use Rattle.line.specs.Event.{before}
use Rattle.line.specs.Station.{Plan, States}
use Rattle.line.specs.Order.{Lt, All}
use Rattle.rules.specs.Held.{unrun, event, Queue, same, place}
use Rattle.rules.specs.Engine.{Setting}
use Rattle.rules.specs.Executable.{runs, undo_from, adding}
use Rattle.rules.specs.Replay.{Clear}
use Rattle.line.proofs.Members.{all_in, in_all}
use Rattle.rules.proofs.Replay.Place.{place_runs}
use Rattle.rules.proofs.Undo.Fuel.{undo_none}
use Rattle.rules.proofs.Replay.Neat.{in_run}
use Rattle.rules.proofs.Undo.Agree.{clear_none, does_agree, does_each}
use Rattle.rules.proofs.Undo.Exist.{can, CanUndoLater}
use Rattle.rules.proofs.Calls.Room.{does_length}
use Rattle.line.specs.Widths.{EventFits}
use Rattle.engine_index.specs.Represents.{Cell, cell}
use Rattle.engine_events.specs.Represents.{From, held_of}
use Rattle.engine_moves.specs.Promises.{HoldsAmong, New, HoldsEvent}
use Rattle.engine_rollback.specs.BetweenSteps.{Mid, RollsTo}
use Rattle.engine_rollback.proofs.Cells.{held_has, has_held, held_length, from_on, from_under}

-- an event new to the cells is new to cells made from them
still_new : {cells after : List Cell} (e : Event) → From cells after → New e (held_of cells) → New e (held_of after)
still_new {cells} {after} e F N y m =
    let r = held_has after m in
    let s = F (cell r.0 y) r.1 in
    subst (λ z. same z e ≡ false) s.2 (N s.0 (has_held s.1))

-- an event that is not e, and not later, is earlier
new_lt : (y e : Event) → same y e ≡ false → before e y ≡ false → Lt y e
unfolding same
new_lt y e s n = go (before y e) refl
  where
    go : (v : Bool) → before y e ≡ v → Lt y e
    go true t = record { is = t }
    go false t = let k : ◌≡◌ {A = Bool} true false = (rw (t, n) at s) in absurd (true≢false k)

module _ {p : Plan} {setting : Setting} {n c now : ℕ} {xs : List ℕ} {q : Queue} {cells : List Cell} {ws : List Event} {st : States}
    (M : Mid p setting n c now xs q cells ws st) (e : Event) (N : New e q.held) where
  -- undoing from e on leaves no more events, as it is undoing the later ones where e is not held
  no_more : length (undo_from p q e.target e).held ≤ length q.held
  no_more = subst (λ (r : Queue). length r.held ≤ length q.held) (sym left) (omega (arith, does_length C.does))
    where
      C : CanUndoLater p M.range ws st q e
      C = (can p M.range (runs q.held)).all q (le_refl _) ws st M.ok M.neat e

      new : All (λ z. same (event z) e ≡ false) C.left.held
      new = does_each (λ y. same y e ≡ false) C.does tt (in_all (λ z. same (event z) e ≡ false) q.held N)

      clear : Clear e.target e C.left.held
      clear =
          in_run (λ y b. y.target ≡ e.target → Lt y e) C.left.held
          (λ y b m t. new_lt y e (all_in (λ z. same (event z) e ≡ false) m new) (C.none y b m t))

      left : undo_from p q e.target e ≡ C.left
      left = (does_agree p C.does M.neat).0 ∙ undo_none p C.left e.target e (clear_none e.target e C.left.held clear)

  pub added : {k r : ℕ} {ys zs : List ℕ} → length cells < c → EventFits e → e.target < n → now ≤ e.time → e.time ≤ horizon
      → RollsTo p setting n c now k q ys (undo_from p q e.target e) cells → HoldsEvent n c ys e r zs
      → RollsTo p setting n c now k q zs (adding p q e) (cell r (unrun e) ∷ cells)
  unfolding adding
  added {k} {r} {ys} {zs} room fits inside early late C T = record {
    becomes = record { after = D.after; holds = D.holds; from = from_on (from_under B.from) D.from };
    undone = subst (λ j. k + j ≡ runs q.held) (sym (place_runs e u.held)) C.undone;
  }
    where
      u : Queue
      u = undo_from p q e.target e

      B : HoldsAmong p setting n c now ys u cells
      B = C.becomes

      short : length B.after < c
      short =
          omega (arith, no_more, held_length B.after, held_length cells, room, ap length B.holds.stores.held, ap length M.holds.stores.held)

      new : New e u.held
      new = subst (λ h. New e h) B.holds.stores.held (still_new e B.from (subst (λ h. New e h) (sym M.holds.stores.held) N))

      D : HoldsAmong p setting n c now zs (record { states = u.states; held = place e u.held }) (cell r (unrun e) ∷ B.after)
      D = T p setting now u B.after B.holds short fits inside early late new
