-- While a run's sends are added one after the other, its event stays the first of its station, with the station's state, and each send has its node.
use mathlib.Core.Path.{◌≡◌, refl, sym, ap, ◌∙◌, subst}
use mathlib.Core.Bool.{Bool, true, false, cond}
use mathlib.Core.List.{List, [], ◌∷◌, ◌++◌, append-nil, Memᴰ}
use Prim.Native.Nat.{ℕ, ◌+◌, ◌*◌, ◌≤◌, ◌<◌}
use native.Mathlib.Omega.{arith}
use borrow.Author.Tests.{ne_eqb}
use lib.ListN.{length}
use Rattle.refusal.specs.Tests.{horizon}
use Rattle.line.specs.declared.Event.{Event}
use Rattle.std.specs.Prelude.{Option, Some, None}
use Rattle.line.specs.Answer.{sends_of}
use Rattle.line.specs.Event.{before}
use Rattle.line.specs.Station.{Plan, States}
use Rattle.line.specs.Order.{Lt, All}
use Rattle.line.proofs.All.{all_map, all_snoc, Distinct}
use Rattle.rules.specs.Held.{Held, unrun, ran, event, In, Queue}
use Rattle.rules.specs.Engine.{Setting}
use Rattle.rules.specs.Undo.{Does, Add}
use Rattle.rules.specs.Executable.{runs, adding, add_all}
use Rattle.rules.specs.Replay.{insert_sorted, Fresh, Neat}
use Rattle.line.proofs.Members.{all_in, in_all}
use Rattle.rules.proofs.Replay.Mark.{First}
use Rattle.rules.proofs.Undo.RunFirst.{first_in}
use Rattle.rules.proofs.Undo.Cascade.{After, Below, add_after}
use Rattle.rules.proofs.Undo.Agree as G
use Rattle.rules.proofs.Undo.Agree.{does_agree, still_new}
use Rattle.rules.proofs.Undo.Exist.{IsHeld, is_unrun, is_run, can_add, waiting_held}
use Rattle.rules.proofs.Calls.Room.{does_length}
use Rattle.line.specs.Widths.{EventFits}
use Rattle.engine_index.specs.Represents.{Cell, cell}
use Rattle.engine_events.specs.Represents.{held_of, Has, nonzero, Nodes}
use Rattle.engine_moves.specs.Promises.{New, HoldsAmong}
use Rattle.engine_moves.proofs.Cells.Members.{member}
use Rattle.engine_rollback.specs.BetweenSteps.{Mid, RollsTo}
use Rattle.engine_rollback.specs.Promises.{Adds}
use Rattle.engine_rollback.proofs.Cells.{held_length}
use Rattle.engine_running.specs.Steps.{AddsSend}
use Rattle.engine_running.proofs.SentNodes.{added_node, kept_node, nodes_kept, nodes_snoc}
use Rattle.engine_promises.proofs.NewEvents.{as_new}

-- ---- members of a list with an event inserted

inserted : (x : Event) (ws : List Event) → Memᴰ x (insert_sorted x ws)
unfolding insert_sorted
inserted x [] = Memᴰ.head refl
inserted x (w ∷ ws) = go (before w x) (inserted x ws)
  where
    go : (v : Bool) → Memᴰ x (insert_sorted x ws) → Memᴰ x (cond v (w ∷ insert_sorted x ws) (x ∷ w ∷ ws))
    go true i = Memᴰ.tail i
    go false i = Memᴰ.head refl

still_in : {z : Event} (x : Event) (ws : List Event) → Memᴰ z ws → Memᴰ z (insert_sorted x ws)
unfolding insert_sorted
still_in x [] m = elim m [ ]
still_in {z} x (w ∷ ws) m = go (before w x) m (λ k. still_in x ws k)
  where
    go : (v : Bool) → Memᴰ z (w ∷ ws) → (Memᴰ z ws → Memᴰ z (insert_sorted x ws)) → Memᴰ z (cond v (w ∷ insert_sorted x ws) (x ∷ w ∷ ws))
    go true (Memᴰ.head e) ih = Memᴰ.head e
    go true (Memᴰ.tail k) ih = Memᴰ.tail (ih k)
    go false k ih = Memᴰ.tail k

-- what adding y needs, where e is the event that runs
pub record Ready (p : Plan) (now : ℕ) (e : Event) (h : List Held) (y : Event) : Type 0 where
  pub inside : y.target < p.count
  pub new : G.New y h
  pub fresh : Fresh p y h
  pub later : Lt e y
  pub fits : EventFits y
  pub early : now ≤ y.time
  pub late : y.time ≤ horizon

-- the bytes hold what adding events has left of q: k are undone, the nodes ks are those of the events es, and rs are still to be added; the event e that
-- runs is at node x
pub record Stage (p : Plan) (setting : Setting) (n c now : ℕ) (q u : Queue) (x : ℕ) (e : Event) (xs : List ℕ) (k : ℕ) (ks : List ℕ)
    (es rs : List Event) : Type 0 where
  pub left : Queue
  pub cells : List Cell
  pub waiting : List Event
  pub states : States
  pub mid : Mid p setting n c now xs left cells waiting states
  pub at : Has (cell x (unrun e)) cells
  pub first : First e.target e left.held
  pub state : left.states e.target ≡ q.states e.target
  pub nodes : Nodes cells ks es
  pub waits : All (λ y. Memᴰ y waiting) es
  pub room : length cells + length rs ≤ c
  pub rest : add_all p rs left ≡ u
  pub falls : k + runs left.held ≡ runs q.held
  pub each : All (Ready p now e left.held) rs
  pub distinct : Distinct rs

-- one more is added
module _ {p : Plan} {setting : Setting} {n c now : ℕ} {q u : Queue} {x : ℕ} {e : Event} {xs : List ℕ} {k : ℕ} {ks : List ℕ} {es : List Event}
    (y : Event) {rs : List Event}
    {node j : ℕ} {ys : List ℕ} (s : Stage p setting n c now q u x e xs k ks es (y ∷ rs)) (D : Adds n c xs y node j ys) where
  R : Ready p now e s.left.held y
  R = s.each.0

  after : Queue
  after = adding p s.left y

  can : (r : Queue) × Does p (Add y) s.left r
  can = can_add p s.mid.range s.left s.waiting s.states s.mid.ok s.mid.neat y

  agrees : (can.0 ≡ after) × Neat p can.0.held
  unfolding after
  agrees = does_agree p can.1 s.mid.neat R.inside R.new

  does : Does p (Add y) s.left after
  does = subst (Does p (Add y) s.left) agrees.0 can.1

  a : After p (insert_sorted y s.waiting) s.states (Below y) s.left after
  unfolding after
  a = add_after p s.mid.range s.waiting s.states y s.left R.inside R.fresh s.mid.ok

  new : New y s.left.held
  new = as_new y s.left.held R.new

  comes : RollsTo p setting n c now j s.left ys after (cell node (unrun y) ∷ s.cells)
  unfolding after
  comes =
      D p setting now s.left s.cells s.waiting s.states s.mid (omega (arith, s.room)) R.fits (omega (arith, R.inside, s.mid.holds.stores.count))
      R.early R.late new

  B : HoldsAmong p setting n c now ys after (cell node (unrun y) ∷ s.cells)
  B = comes.becomes

  held_is : held_of B.after ≡ after.held
  held_is = B.holds.stores.held

  held : All (λ z. IsHeld z after.held) (insert_sorted y s.waiting)
  held = waiting_held p (insert_sorted y s.waiting) s.states after.states after.held a.ok.replay

  new_cells : New y (held_of s.cells)
  new_cells = subst (New y) (sym s.mid.holds.stores.held) new

  keeps : First e.target e after.held × (after.states e.target ≡ s.left.states e.target)
  keeps = a.keeps e.target e R.later s.first

  there : IsHeld y after.held → (h : Held) × (event h ≡ y) × Has (cell node h) B.after
  there (is_unrun i) =
      (unrun y, refl, added_node s.mid.holds.stores.stands.sorted B.from new_cells (unrun y) refl (subst (In (unrun y)) (sym held_is) i))
  there (is_run b i) =
      (ran y b, refl, added_node s.mid.holds.stores.stands.sorted B.from new_cells (ran y b) refl (subst (In (ran y b)) (sym held_is) i))

  y_at : (h : Held) × (event h ≡ y) × Has (cell node h) B.after
  y_at = there (all_in (λ z. IsHeld z after.held) (inserted y s.waiting) held)

  pub added_above : 2 * n < node
  added_above = (member B.holds.stores.stands (cell node y_at.0) y_at.2).1

  old_nodes : Nodes B.after ks es
  old_nodes =
      nodes_kept s.mid.holds.stores.stands.sorted B.from new_cells s.nodes
      (all_map (λ z m. subst (IsHeld z) (sym held_is) (all_in (λ w. IsHeld w after.held) (still_in y s.waiting m) held)) es s.waits)

  still_ready : All (Ready p now e after.held) rs
  still_ready =
      in_all (Ready p now e after.held) rs
      (λ z m.
      let r = all_in (Ready p now e s.left.held) m s.each.1 in
      record {
        inside = r.inside;
        new = all_in (λ w. G.New w after.held) m (still_new p does rs s.distinct.0 (all_map (λ w t. t.new) rs s.each.1));
        fresh = a.fresh z r.fresh;
        later = r.later;
        fits = r.fits;
        early = r.early;
        late = r.late;
      })

  pub one_more : Stage p setting n c now q u x e ys (k + j) (ks ++ (node ∷ [])) (es ++ (y ∷ [])) rs
  unfolding add_all after
  one_more = record {
    left = after;
    cells = B.after;
    waiting = insert_sorted y s.waiting;
    states = s.states;
    mid = record { range = s.mid.range; holds = B.holds; ok = a.ok; neat = subst (λ (r : Queue). Neat p r.held) agrees.0 agrees.1 };
    at =
        kept_node s.mid.holds.stores.stands.sorted B.from new_cells (unrun e) s.at refl
        (subst (In (unrun e)) (sym held_is) (first_in keeps.0));
    first = keeps.0;
    state = keeps.1 ∙ s.state;
    nodes = subst (λ z. Nodes B.after (ks ++ (node ∷ [])) (es ++ (z ∷ []))) y_at.1 (nodes_snoc node y_at.0 y_at.2 old_nodes);
    waits =
        all_snoc (λ z. Memᴰ z (insert_sorted y s.waiting)) es y (all_map (λ z m. still_in y s.waiting m) es s.waits) (inserted y s.waiting);
    room =
        omega (arith, s.room, does_length does, held_length s.cells, held_length B.after, ap length held_is, ap length s.mid.holds.stores.held);
    rest = s.rest;
    falls = omega (arith, s.falls, comes.undone);
    each = still_ready;
    distinct = s.distinct.1;
  }

-- a place for a send is added, empty or not
pub send_more : {p : Plan} {setting : Setting} {n c now : ℕ} {q u : Queue} {x : ℕ} {e : Event} {xs : List ℕ} {k : ℕ} {ks : List ℕ} {es : List Event} (a : Option Event) {rs : List Event}
    (node j : ℕ) {ys : List ℕ} → Stage p setting n c now q u x e xs k ks es (sends_of a ++ rs) → AddsSend n c xs a node j ys
    → Stage p setting n c now q u x e ys (k + j) (ks ++ nonzero node) (es ++ sends_of a) rs
send_more {p} {setting} {n} {c} {now} {q} {u} {x} {e} {xs} {k} {ks} {es} None {rs} node j {ys} s D =
    let i : k + j ≡ k = omega (arith, D.1) in
    rw (D.2, D.0, i, append-nil ks, append-nil es) s
send_more {p} {setting} {n} {c} {now} {q} {u} {x} {e} {xs} {k} {ks} {es} (Some y) {rs} node j {ys} s D =
    let l = added_above y s D in
    rw (ne_eqb node 0 (λ z. omega (arith, l, z))) (one_more y s D)
