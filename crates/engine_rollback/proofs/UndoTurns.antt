-- The run events of a station from an event on, undone one at a time: what a turn leaves to do, and when nothing is left.
use mathlib.Core.Path.{◌≡◌, refl, sym, ap, ◌∙◌, subst}
use mathlib.Core.Logic.{◌≢◌}
use mathlib.Core.Bool.{Bool, true, false}
use mathlib.Core.List.{List}
use Prim.Native.Nat.{ℕ, ◌+◌, ◌≤◌, ◌<◌}
use native.Mathlib.Omega.{arith}
use Rattle.line.specs.declared.Event.{Event}
use Rattle.line.specs.declared.State.{State}
use Rattle.line.specs.Event.{before}
use Rattle.line.specs.Station.{Plan, States}
use Rattle.line.specs.Order.{Lt, Ge}
use Rattle.line.proofs.Order.{ge_lt}
use Rattle.rules.specs.Held.{ran, In, Queue, unmark}
use Rattle.rules.specs.Engine.{Setting}
use Rattle.rules.specs.Undo.{NoneLater}
use Rattle.rules.specs.Executable.{runs, undo_from, undo_event}
use Rattle.rules.specs.Replay.{Clear}
use Rattle.rules.proofs.Undo.Fuel.{undo_none, undo_some}
use Rattle.rules.proofs.Replay.Neat.{in_run, run_in, is_latest}
use Rattle.rules.proofs.Undo.Agree.{clear_none, latest_found}
use Rattle.engine_rows.specs.Layout.{slot_row}
use Rattle.entry.specs.Entry.{event_at}
use Rattle.engine_index.specs.Layout.{slot_of}
use Rattle.engine_index.specs.Represents.{Cell, cell}
use Rattle.engine_events.specs.Represents.{Has, From, held_of}
use Rattle.engine_rollback.specs.BetweenSteps.{Mid, RollsTo}
use Rattle.engine_rollback.specs.Promises.{Undoes, UndoesFrom}
use Rattle.engine_rollback.proofs.Cells.{has_held, from_same, from_on}
use Rattle.engine_rollback.proofs.OrderKept.{Left, undo_left}
use Rattle.engine_ends.specs.Ends.{last_run}
use Rattle.engine_rollback.proofs.LatestRun.{Top, empty, latest, top, placed, event_of}

-- so far k events are undone, and what the bytes hold leaves the rest to undo
pub record Going (p : Plan) (setting : Setting) (n c now s : ℕ) (e : Event) (k : ℕ) (q : Queue) (cells : List Cell) (ys : List ℕ) (ws : List Event)
    (st : States) : Type 0 where
  pub queue : Queue
  pub after : List Cell
  pub mid : Mid p setting n c now ys queue after ws st
  pub from : From cells after
  pub rest : undo_from p queue s e ≡ undo_from p q s e
  pub undone : k + runs queue.held ≡ runs q.held

-- of whatever the bytes held at first
abbrev pub Goes : ℕ → ℕ → List ℕ → ℕ → Event → ℕ → List ℕ → Type 0
Goes n c xs s e k ys =
    (p : Plan) (setting : Setting) (now : ℕ) (q : Queue) (cells : List Cell) (ws : List Event) (st : States) → Mid p setting n c now xs q cells ws st
    → Going p setting n c now s e k q cells ys ws st

pub goes_at_first : (n c : ℕ) (xs : List ℕ) (s : ℕ) (e : Event) → Goes n c xs s e 0 xs
goes_at_first n c xs s e p setting now q cells ws st M =
    record { queue = q; after = cells; mid = M; from = from_same cells; rest = refl; undone = omega arith }

-- nothing of s is run from e on
abbrev Ended : ℕ → ℕ → ℕ → Event → List ℕ → Type 0
Ended n c s e ys =
    (p : Plan) (setting : Setting) (now : ℕ) (q : Queue) (cells : List Cell) (ws : List Event) (st : States) → Mid p setting n c now ys q cells ws st
    → Clear s e q.held

-- the code's test, of the event in the slot that it has found
pub test_at : (n x : ℕ) (ys : List ℕ) (e : Event) {i : ℕ} {u v : Bool} → i ≡ slot_of n x → u ≡ before (event_at (slot_row n i) ys) e → u ≡ v
    → before (event_at (slot_row n (slot_of n x)) ys) e ≡ v
test_at n x ys e a j k = ap (λ (i : ℕ). before (event_at (slot_row n i) ys) e) (sym a) ∙ sym j ∙ k

module _ {n c s : ℕ} {ys : List ℕ} (l : s < n) where
  topmost : {x : ℕ} → x ≡ last_run ys n c s
      → {p : Plan} {setting : Setting} {now : ℕ} {q : Queue} {cells : List Cell} {ws : List Event} {st : States}
      → Mid p setting n c now ys q cells ws st → Top n s x cells
  topmost {x} a {cells = cells} M = rw a (top M.holds.stores.stands l)

  -- a node of a cell is not 0
  not_zero : {x : ℕ} {p : Plan} {setting : Setting} {now : ℕ} {q : Queue} {cells : List Cell} {ws : List Event} {st : States} {f : Event} {b : State}
      → Mid p setting n c now ys q cells ws st → Has (cell x (ran f b)) cells → x ≢ 0
  not_zero M m t = omega (arith, (placed M.holds.stores.stands.stored m).beyond, t)

  event_at_lem : {x : ℕ} {p : Plan} {setting : Setting} {now : ℕ} {q : Queue} {cells : List Cell} {ws : List Event} {st : States} {f : Event} {b : State}
      → Mid p setting n c now ys q cells ws st → Has (cell x (ran f b)) cells → event_at (slot_row n (slot_of n x)) ys ≡ f
  event_at_lem {x} {f = f} {b = b} M m = event_of n ys x (ran f b) (placed M.holds.stores.stands.stored m).held

  module _ (e : Event) where
    pub ended_empty : {x : ℕ} → x ≡ last_run ys n c s → x ≡ 0 → Ended n c s e ys
    ended_empty {x} a t p setting now q cells ws st M = go (topmost a M)
      where
        go : Top n s x cells → Clear s e q.held
        go (empty _ z) =
            in_run (λ y b. y.target ≡ s → Lt y e) q.held
            (λ y b m u. absurd (run_in (λ w d. w.target ≢ s) y b (held_of cells) (subst (λ h. In (ran y b) h) (sym M.holds.stores.held) m) z u))
        go (latest f b m u k) = absurd (not_zero M m t)

    pub ended_before : {x : ℕ} → x ≡ last_run ys n c s → x ≢ 0 → before (event_at (slot_row n (slot_of n x)) ys) e ≡ true → Ended n c s e ys
    ended_before {x} a d t p setting now q cells ws st M = go (topmost a M)
      where
        go : Top n s x cells → Clear s e q.held
        go (empty u _) = absurd (d u)
        go (latest f b m u k) =
            in_run (λ y b. y.target ≡ s → Lt y e) q.held
            (λ y a i v. ge_lt (record { is = k y a (subst (λ h. In (ran y a) h) (sym M.holds.stores.held) i) (v ∙ sym u) })
            (record { is = subst (λ g. before g e ≡ true) (event_at_lem M m) t }))

    -- one more event is undone
    module _ {x : ℕ} (a : x ≡ last_run ys n c s) (d : x ≢ 0) (t : before (event_at (slot_row n (slot_of n x)) ys) e ≡ false) where
      pub turn : {k : ℕ} {zs : List ℕ} → Undoes n c ys x k zs
          → {p : Plan} {setting : Setting} {now : ℕ} {q : Queue} {cells : List Cell} {ws : List Event} {st : States}
          → Mid p setting n c now ys q cells ws st
          → Going p setting n c now s e k q cells zs ws st × (1 ≤ k)
      turn {k} {zs} U {p} {setting} {now} {q} {cells} {ws} {st} M = go (topmost a M)
        where
          go : Top n s x cells → Going p setting n c now s e k q cells zs ws st × (1 ≤ k)
          go (empty u _) = absurd (d u)
          go (latest f b m u v) = (
            record {
              queue = r;
              after = C.becomes.after;
              mid = record { range = M.range; holds = C.becomes.holds; ok = L.ok; neat = L.neat };
              from = C.becomes.from;
              rest = sym some;
              undone = C.undone;
            },
            omega (arith, C.undone, L.falls),
          )
            where
              r : Queue
              r = undo_event p q f.target f b (unmark f q.held)

              run : In (ran f b) q.held
              run = subst (λ h. In (ran f b) h) M.holds.stores.held (has_held m)

              late : NoneLater f q.held
              late = subst (λ h. NoneLater f h) M.holds.stores.held v

              C : RollsTo p setting n c now k q zs r cells
              C = U p setting now q cells ws st f b M m late

              L : Left p ws st q r
              L = undo_left M.range M.ok M.neat run late

              ge : Ge f e
              ge = record { is = subst (λ g. before g e ≡ false) (event_at_lem M m) t }

              some : undo_from p q s e ≡ undo_from p r s e
              some =
                  undo_some p q s e f b (unmark f q.held) (latest_found (is_latest s e f b q.held M.neat.strict run u ge late))
                  ∙ ap (λ i. undo_from p (undo_event p q i f b (unmark f q.held)) s e) (sym u)

      pub goes_on : {xs : List ℕ} {i k : ℕ} {zs : List ℕ} → Goes n c xs s e i ys → Undoes n c ys x k zs → Goes n c xs s e (i + k) zs
      goes_on G U p setting now q cells ws st M =
          let A = G p setting now q cells ws st M in
          let B = (turn U A.mid).0 in
          record {
            queue = B.queue;
            after = B.after;
            mid = B.mid;
            from = from_on A.from B.from;
            rest = B.rest ∙ A.rest;
            undone = omega (arith, A.undone, B.undone);
          }

      -- so a turn that undoes nothing is on other bytes
      pub no_turn : {xs : List ℕ} {i k : ℕ} {zs us : List ℕ} → Goes n c xs s e i ys → Undoes n c ys x k zs → k ≡ 0 → UndoesFrom n c xs s e i us
      no_turn G U z p setting now q cells ws st M = absurd (omega (arith, (turn U (G p setting now q cells ws st M).mid).1, z))

-- ---- the end

pub undoes_from : {n c : ℕ} {xs : List ℕ} {s : ℕ} {e : Event} {k : ℕ} {ys : List ℕ} → Goes n c xs s e k ys → Ended n c s e ys → UndoesFrom n c xs s e k ys
undoes_from {n} {c} {xs} {s} {e} {k} {ys} G E p setting now q cells ws st M =
    let A = G p setting now q cells ws st M in
    let t : A.queue ≡ undo_from p q s e =
    sym (undo_none p A.queue s e (clear_none s e A.queue.held (E p setting now A.queue A.after ws st A.mid))) ∙ A.rest in
    subst (λ r. RollsTo p setting n c now k q ys r cells) t
    (record { becomes = record { after = A.after; holds = A.mid.holds; from = A.from }; undone = A.undone })
