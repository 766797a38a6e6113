-- The sends of an event that was made unrun, removed one after the other.
use mathlib.Core.Path.{◌≡◌, refl, sym, ◌∙◌, subst}
use mathlib.Core.Logic.{◌⊎◌, inl, inr}
use mathlib.Core.Bool.{Bool, true, false, cond}
use mathlib.Core.List.{List, [], ◌∷◌, ◌++◌}
use Prim.Native.Nat.{ℕ, ◌+◌, ◌≤◌, ◌<◌}
use native.Mathlib.Omega.{arith}
use lib.Dec.{eqb, eqb→eq}
use Rattle.line.specs.declared.Event.{Event}
use Rattle.line.specs.Station.{Plan, States}
use Rattle.line.specs.Order.{Lt, All}
use Rattle.line.proofs.Order.{Tri, below, level, above, tri, tr}
use Rattle.line.proofs.All.{all_map}
use Rattle.rules.specs.Held.{Held, unrun, event, In, Queue}
use Rattle.rules.specs.Engine.{Setting}
use Rattle.rules.specs.Executable.{runs, removing, remove_all}
use Rattle.rules.specs.Replay.{insert_all_sorted, Fresh, Clear}
use Rattle.rules.proofs.Undo.Cascade.{After, Below, remove_after}
use Rattle.rules.proofs.Replay.Neat.{in_run, run_in, unrun_clear}
use Rattle.rules.proofs.Undo.Exist.{IsHeld}
use Rattle.engine_index.specs.Represents.{Cell}
use Rattle.engine_events.specs.Represents.{From, held_of, nonzero, Nodes, more}
use Rattle.engine_rollback.specs.BetweenSteps.{Mid, RollsTo}
use Rattle.engine_rollback.specs.Promises.{RemovesBelow}
use Rattle.engine_rollback.proofs.Cells.{from_same, nodes_stay}
use Rattle.engine_rollback.proofs.TakenOut.{are_held}
use Rattle.engine_rollback.proofs.OrderKept.{remove_neat}

-- a send of e
pub record Child (e y : Event) : Type 0 where
  pub later : Lt e y
  pub down : y.target ≤ e.target

-- the bytes hold q, with e unrun, and its sends es, at the nodes ks, are due to be removed
pub record Due (p : Plan) (setting : Setting) (n c now : ℕ) (xs : List ℕ) (q : Queue) (cells : List Cell) (ks : List ℕ) (es ws : List Event)
    (st : States) (e : Event)
    : Type 0 where
  pub mid : Mid p setting n c now xs q cells (insert_all_sorted es ws) st
  pub fresh : All (λ y. Fresh p y q.held) es
  pub cause : In (unrun e) q.held
  pub sent : All (Child e) es
  pub nodes : Nodes cells ks es

-- a send's target is lower, or none of its run events is at or after the send
pub lower : {p : Plan} {setting : Setting} {n c now : ℕ} {xs : List ℕ} {q : Queue} {cells : List Cell} {ws : List Event} {st : States} (e y : Event)
    → Mid p setting n c now xs q cells ws st → In (unrun e) q.held → Child e y → (y.target < e.target) ⊎ Clear y.target y q.held
lower {q = q} e y M m C = go (tri y.target e.target)
  where
    clear : Clear e.target e q.held
    clear = unrun_clear e q.held M.neat.strict M.neat.blocked m

    go : Tri y.target e.target → (y.target < e.target) ⊎ Clear y.target y q.held
    go (below l _) = inl l
    go (level t _) =
        inr (in_run (λ z a. z.target ≡ y.target → Lt z y) q.held
        (λ z a k f. tr (run_in (λ w b. w.target ≡ e.target → Lt w e) z a q.held k clear (f ∙ t)) C.later))
    go (above l _) = absurd (omega (arith, C.down, l))

-- after one send has been removed
pub next_due : {p : Plan} {setting : Setting} {n c now : ℕ} {xs : List ℕ} {q : Queue} {cells : List Cell} {ks : List ℕ} {es ws : List Event} {st : States} {e : Event}
    {k : ℕ} (h : Held) {r : ℕ} {ys : List ℕ}
    → Due p setting n c now xs q cells (k ∷ ks) (event h ∷ es) ws st e → Nodes cells ks es
    → (C : RollsTo p setting n c now r q ys (removing p q (event h)) cells)
    → Due p setting n c now ys (removing p q (event h)) C.becomes.after ks es ws st e
unfolding insert_all_sorted
next_due {p} {setting} {n} {c} {now} {xs} {q} {cells} {ks} {es} {ws} {st} {e} {k} h {r} {ys} D N C = record {
  mid = record {
    range = D.mid.range;
    holds = C.becomes.holds;
    ok = A.ok;
    neat = remove_neat (event h) (insert_all_sorted es ws) D.mid.range D.mid.ok D.mid.neat;
  };
  fresh = all_map (λ z f. A.fresh z f) es D.fresh.1;
  cause = A.stays (unrun e) D.sent.0.later D.cause;
  sent = D.sent.1;
  nodes = nodes_stay D.mid.holds.stores.stands.sorted C.becomes.from held N;
}
  where
    A : After p (insert_all_sorted es ws) st (Below (event h)) q (removing p q (event h))
    A = remove_after p D.mid.range (insert_all_sorted es ws) st (event h) q D.fresh.0 D.mid.ok

    held : All (λ y. IsHeld y (held_of C.becomes.after)) es
    held = subst (λ l. All (λ y. IsHeld y l) es) (sym C.becomes.holds.stores.held) (are_held es ws A.ok)

-- one call of remove_below, for a send that may not be there
pub record Partly (p : Plan) (setting : Setting) (n c now r : ℕ) (ys : List ℕ) (q : Queue) (cells : List Cell) (ks : List ℕ) (es ws : List Event)
    (st : States)
    (e : Event) : Type 0 where
  pub queue : Queue
  pub after : List Cell
  pub rest : List Event
  pub due : Due p setting n c now ys queue after ks rest ws st e
  pub same : remove_all p es q ≡ remove_all p rest queue
  pub from : From cells after
  pub undone : r + runs queue.held ≡ runs q.held

remove_first : (p : Plan) (y : Event) (ys : List Event) (q : Queue) → remove_all p (y ∷ ys) q ≡ remove_all p ys (removing p q y)
unfolding remove_all
remove_first p y ys q = refl

pub partly : {p : Plan} {setting : Setting} {n c now : ℕ} {xs : List ℕ} {q : Queue} {cells : List Cell} (k : ℕ) {ks : List ℕ} {es ws : List Event} {st : States}
    {e : Event} {r : ℕ} {ys : List ℕ}
    → Due p setting n c now xs q cells (nonzero k ++ ks) es ws st e → (k ≡ 0 → (r ≡ 0) × (ys ≡ xs)) → RemovesBelow n c xs e.target k r ys
    → Partly p setting n c now r ys q cells ks es ws st e
unfolding insert_all_sorted
partly {p} {setting} {n} {c} {now} {xs} {q} {cells} k {ks} {es} {ws} {st} {e} {r} {ys} D Z R = go (eqb k 0) refl D
  where
    one : (es : List Event) → Due p setting n c now xs q cells (k ∷ ks) es ws st e → Nodes cells (k ∷ ks) es
        → Partly p setting n c now r ys q cells ks es ws st e
    one es d (more {h = h} {es = rest} m N) =
        let C = R p setting now q cells (insert_all_sorted rest ws) st h d.mid m d.fresh.0 (lower e (event h) d.mid d.cause d.sent.0) in
        record {
          queue = removing p q (event h);
          after = C.becomes.after;
          rest = rest;
          due = next_due h d N C;
          same = remove_first p (event h) rest q;
          from = C.becomes.from;
          undone = C.undone;
        }

    go : (v : Bool) → eqb k 0 ≡ v → Due p setting n c now xs q cells (cond v [] (k ∷ []) ++ ks) es ws st e
        → Partly p setting n c now r ys q cells ks es ws st e
    go true t d =
        let z = Z (eqb→eq k 0 (rw t tt)) in
        record {
          queue = q;
          after = cells;
          rest = es;
          due = subst (λ l. Due p setting n c now l q cells ks es ws st e) (sym z.1) d;
          same = refl;
          from = from_same cells;
          undone = omega (arith, z.0);
        }
    go false t d = one es d d.nodes
