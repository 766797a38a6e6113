-- An event is undone: it is made unrun, and then its sends are removed.
use mathlib.Core.Path.{◌≡◌, refl, sym, ◌∙◌, subst}
use mathlib.Core.List.{List, [], ◌++◌, append-nil}
use Prim.Native.Nat.{ℕ, ◌+◌, ◌<◌}
use native.Mathlib.Omega.{arith}
use Rattle.words.specs.Le.{load_at}
use Rattle.line.specs.declared.Event.{Event}
use Rattle.line.specs.declared.State.{State}
use Rattle.line.specs.Station.{Plan, States, update, run_event}
use Rattle.line.specs.Order.{Ge, All}
use Rattle.rules.specs.Held.{ran, event, In, Queue, unmark}
use Rattle.rules.specs.Engine.{Setting}
use Rattle.rules.specs.Undo.{NoneLater}
use Rattle.rules.specs.Executable.{runs, remove_all, undo_event}
use Rattle.line.proofs.All.{all_both}
use Rattle.line.proofs.Members.{all_in}
use Rattle.line.proofs.Sends.{sends_down}
use Rattle.rules.proofs.Replay.Replay.{sends_later}
use Rattle.rules.proofs.Replay.Unmark.{Latest, found_runs}
use Rattle.rules.proofs.Undo.RunFirst.{first_in}
use Rattle.rules.proofs.Undo.Cascade.{found_after, found_new}
use Rattle.rules.proofs.Replay.Neat.{unmark_neat}
use Rattle.rules.proofs.Replay.LeastUnrun.{unrun_in}
use Rattle.rules.proofs.Undo.Exist.{IsHeld}
use Rattle.rules.proofs.Replay.Registered.{run_none_before, unmark_first}
use Rattle.engine_rows.specs.Layout.{slot_row}
use Rattle.engine_index.specs.Layout.{slot_of}
use Rattle.engine_index.specs.Represents.{Cell, cell}
use Rattle.engine_events.specs.Represents.{Has, Holds, Nodes, none, nonzero, sends_at}
use Rattle.engine_moves.specs.Promises.{NoneWaits, HoldsAmong}
use Rattle.engine_rollback.specs.BetweenSteps.{Mid, RollsTo}
use Rattle.engine_rollback.specs.Promises.{RemovesBelow}
use Rattle.engine_rollback.proofs.Cells.{has_held, from_on, nodes_stay}
use Rattle.engine_rollback.proofs.TakenOut.{are_held}
use Rattle.engine_rollback.proofs.OrderKept.{latest_of}
use Rattle.engine_rollback.proofs.SendsRemoved.{Child, Due, Partly, partly}

-- no nodes are left, so no sends
nothing_left : {cells : List Cell} {es : List Event} (p : Plan) (q : Queue) → Nodes cells [] es → remove_all p es q ≡ q
unfolding remove_all
nothing_left p q none = refl

module _ {p : Plan} {setting : Setting} {n c now : ℕ} {xs : List ℕ} {q : Queue} {cells : List Cell} {ws : List Event} {st : States} {e : Event}
    {b : State} {x : ℕ}
    (M : Mid p setting n c now xs q cells ws st) (m : Has (cell x (ran e b)) cells) (N : NoneLater e q.held) where
  abbrev es : List Event
  es = (run_event p b e).sends

  -- the queue with e unrun
  abbrev pub unrunning : Queue
  unrunning = record { states = update q.states e.target b; held = unmark e q.held }

  run : In (ran e b) q.held
  run = subst (λ l. In (ran e b) l) M.holds.stores.held (has_held m)

  pub none_waits : NoneWaits e q.held
  none_waits z k t =
      (unrun_in (λ y. y.target ≡ e.target → Ge y e) z q.held k (run_none_before e b q.held M.neat.strict M.neat.blocked run) t).is

  lat : Latest e.target e e b q.held (unmark e q.held)
  lat = latest_of q M.neat run N

  inside : e.target < p.count
  inside = all_in (λ z. (event z).target < p.count) run M.neat.inside

  sent : All (Child e) es
  sent = all_both (λ y l d. record { later = l; down = d }) es (sends_later p M.range b e inside) (sends_down p M.range b e inside)

  due_here : {ys : List ℕ} {ks : List ℕ} → (B : HoldsAmong p setting n c now ys unrunning cells) → Nodes cells ks es
      → Due p setting n c now ys unrunning B.after ks es ws st e
  due_here {ys} {ks} B K =
      let A = found_after p M.range q e.target e e b (unmark e q.held) ws st M.ok lat in
      record {
        mid = record { range = M.range; holds = B.holds; ok = A.ok; neat = unmark_neat p e b q.held run N M.neat };
        fresh = found_new p M.range q e.target e e b (unmark e q.held) ws st M.ok lat;
        cause = first_in (unmark_first e b q.held M.neat.strict run (run_none_before e b q.held M.neat.strict M.neat.blocked run));
        sent = sent;
        nodes =
            nodes_stay M.holds.stores.stands.sorted B.from
            (subst (λ l. All (λ y. IsHeld y l) es) (sym B.holds.stores.held) (are_held es ws A.ok)) K;
      }

  kids : Nodes cells (nonzero (load_at 2 (slot_row n (slot_of n x) + 56) xs) ++ (nonzero (load_at 2 (slot_row n (slot_of n x) + 58) xs) ++ [])) es
  unfolding sends_at
  kids = rw append-nil (M.holds.stores.kids x e b m)

  pub undone : {k₁ k₂ r₁ r₂ : ℕ} {ys zs us : List ℕ} → k₁ ≡ load_at 2 (slot_row n (slot_of n x) + 56) xs → k₂ ≡ load_at 2 (slot_row n (slot_of n x) + 58) xs
      → HoldsAmong p setting n c now ys unrunning cells
      → (k₁ ≡ 0 → (r₁ ≡ 0) × (zs ≡ ys)) → RemovesBelow n c ys e.target k₁ r₁ zs
      → (k₂ ≡ 0 → (r₂ ≡ 0) × (us ≡ zs)) → RemovesBelow n c zs e.target k₂ r₂ us
      → RollsTo p setting n c now (1 + r₁ + r₂) q us (undo_event p q e.target e b (unmark e q.held)) cells
  unfolding undo_event
  undone {k₁} {k₂} {r₁} {r₂} {ys} {zs} {us} a₁ a₂ B Z₁ R₁ Z₂ R₂ = go last.rest last.due last.same
    where
      first : Partly p setting n c now r₁ zs unrunning B.after (nonzero k₂ ++ []) es ws st e
      first = partly k₁ (due_here B (rw (a₁, a₂) kids)) Z₁ R₁

      last : Partly p setting n c now r₂ us first.queue first.after [] first.rest ws st e
      last = partly k₂ first.due Z₂ R₂

      count : 1 + r₁ + r₂ + runs last.queue.held ≡ runs q.held
      count = omega (arith, first.undone, last.undone, found_runs lat)

      go : (rest : List Event) → Due p setting n c now us last.queue last.after [] rest ws st e
          → remove_all p first.rest first.queue ≡ remove_all p rest last.queue
          → RollsTo p setting n c now (1 + r₁ + r₂) q us (remove_all p es unrunning) cells
      go rest D q₂ = record {
        becomes = record {
          after = last.after;
          holds = subst (λ r. Holds p setting n c now us r last.after) (sym (first.same ∙ q₂ ∙ nothing_left p last.queue D.nodes)) D.mid.holds;
          from = from_on B.from (from_on first.from last.from);
        };
        undone = subst (λ (r : Queue). 1 + r₁ + r₂ + runs r.held ≡ runs q.held) (sym (first.same ∙ q₂ ∙ nothing_left p last.queue D.nodes)) count;
      }
