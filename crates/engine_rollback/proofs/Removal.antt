-- An event is removed: after its target's run events from it on are undone it is unrun, where it was, and can be discarded.
use mathlib.Core.Path.{◌≡◌, refl, sym, subst}
use mathlib.Core.List.{List}
use Prim.Native.Nat.{ℕ, ◌+◌, ◌<◌}
use native.Mathlib.Omega.{arith}
use Rattle.line.specs.declared.Event.{Event}
use Rattle.line.specs.Station.{Plan, States}
use Rattle.rules.specs.Held.{Held, unrun, event, In, Queue, delete}
use Rattle.rules.specs.Engine.{Setting}
use Rattle.rules.specs.Executable.{runs, undo_from, removing}
use Rattle.rules.specs.Replay.{insert_sorted, Fresh, Clear}
use Rattle.line.proofs.Members.{all_in}
use Rattle.rules.proofs.Undo.Cascade.{Undone, undo_from_lem}
use Rattle.rules.proofs.Undo.Fuel.{undo_none}
use Rattle.rules.proofs.Undo.Agree.{clear_none}
use Rattle.rules.proofs.Undo.Count.{delete_same_runs}
use Rattle.engine_index.specs.Represents.{Cell, cell}
use Rattle.engine_events.specs.Represents.{Has, Stores}
use Rattle.engine_moves.specs.Promises.{HoldsAmong, DiscardsEvent}
use Rattle.engine_rollback.specs.BetweenSteps.{Mid, RollsTo}
use Rattle.engine_rollback.proofs.Cells.{has_held, from_same, from_on, same_node}
use Rattle.engine_rollback.proofs.TakenOut.{is_held, is_waiting, fresh_unsent}

module _ {p : Plan} {setting : Setting} {n c now : ℕ} {xs : List ℕ} {q : Queue} {cells : List Cell} (ws : List Event) {st : States} {x : ℕ} (h : Held)
    (M : Mid p setting n c now xs q cells (insert_sorted (event h) ws) st) (m : Has (cell x h) cells) where
  -- its target is a station
  pub target_inside : (event h).target < n
  target_inside =
      let s : Stores p n c now xs q cells = M.holds.stores in
      subst (λ k. (event h).target < k) s.count (all_in (λ z. (event z).target < p.count) (subst (λ l. In h l) s.held (has_held m)) M.neat.inside)

  -- what has been undone is followed by discarding node x
  pub removed : {k : ℕ} {ys zs : List ℕ} → Fresh p (event h) q.held
      → RollsTo p setting n c now k q ys (undo_from p q (event h).target (event h)) cells
      → DiscardsEvent n c ys x zs → RollsTo p setting n c now k q zs (removing p q (event h)) cells
  unfolding removing
  removed {k} {ys} {zs} f C L = record {
    becomes = record { after = D.after; holds = D.holds; from = from_on B.from D.from };
    undone = subst (λ j. k + j ≡ runs q.held) (sym (delete_same_runs e r.held U.clear)) C.undone;
  }
    where
      e : Event
      e = event h

      r : Queue
      r = undo_from p q e.target e

      U : Undone p (insert_sorted e ws) st e.target e q r
      U = undo_from_lem p M.range q e.target e (insert_sorted e ws) st M.ok

      B : HoldsAmong p setting n c now ys r cells
      B = C.becomes

      waits : In (unrun e) r.held
      waits = is_waiting U.clear (is_held e ws U.after.ok)

      stands : Has (cell x (unrun e)) B.after
      stands = same_node M.holds.stores.stands.sorted B.from m (subst (λ l. In (unrun e) l) (sym B.holds.stores.held) waits) refl

      D : HoldsAmong p setting n c now zs (record { states = r.states; held = delete e r.held }) B.after
      D = L p setting now r B.after e B.holds stands (fresh_unsent p e r.held (U.after.fresh e f))

  -- where none of them is run nothing is undone
  pub removed_clear : {zs : List ℕ} → Fresh p (event h) q.held → Clear (event h).target (event h) q.held
      → DiscardsEvent n c xs x zs → RollsTo p setting n c now 0 q zs (removing p q (event h)) cells
  removed_clear {zs} f k L = removed f C L
    where
      same : undo_from p q (event h).target (event h) ≡ q
      same = undo_none p q (event h).target (event h) (clear_none (event h).target (event h) q.held k)

      C : RollsTo p setting n c now 0 q xs (undo_from p q (event h).target (event h)) cells
      C = subst (λ r. RollsTo p setting n c now 0 q xs r cells) (sym same)
          (record { becomes = record { after = cells; holds = M.holds; from = from_same cells }; undone = omega arith })
