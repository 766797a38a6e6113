-- A run: each number refuses what the rules say; else the sends are added in order and the event is run.
use mathlib.Core.Path.{◌≡◌, refl, sym, ap, ◌∙◌, subst}
use mathlib.Core.Logic.{◌⊎◌, inl, inr}
use mathlib.Core.Bool.{false}
use mathlib.Core.List.{List, [], ◌++◌, append-nil, Memᴰ}
use Prim.Native.Nat.{ℕ, suc, ◌+◌, ◌≤◌, ◌<◌}
use native.Mathlib.Omega.{arith}
use borrow.Author.Tests.{le-leb, lt-leb, leb-true, leb-false}
use lib.Dec.{leb}
use lib.ListN.{length, length-append, get_or}
use Rattle.refusal.specs.Tests.{accepted, refused, judged}
use Rattle.line.specs.declared.Config.{Config}
use Rattle.line.specs.declared.Effect.{Effect}
use Rattle.line.specs.declared.Event.{Event}
use Rattle.std.specs.Prelude.{Option, Some, None}
use Rattle.line.specs.declared.State.{State}
use Rattle.line.specs.Answer.{counts_pass, counted, sends_of, said}
use Rattle.line.specs.Station.{Plan, Outcome, update, run_at, run_event}
use Rattle.line.specs.Order.{Lt, All}
use Rattle.line.proofs.Order.{asym}
use Rattle.line.proofs.Sends.{Sent, Good}
use Rattle.rules.specs.Held.{unrun, Queue, least_unrun, mark, undone}
use Rattle.rules.specs.Held.Found.{none as nothing}
use Rattle.rules.specs.Undo.{NoneLater, Does, AddEach}
use Rattle.rules.specs.Engine.{Engine, RunStation, Ran as Said}
use Rattle.rules.specs.Checks.{checks}
use Rattle.rules.specs.Calls.{with, running, Answers, run}
use Rattle.rules.specs.Demand.{posts, retracted, logs}
use Rattle.rules.specs.Executable.{runs, add_all, run_least}
use Rattle.line.proofs.Members.{all_in, in_all}
use Rattle.rules.proofs.Replay.Replay.{fresh_above, sends_later}
use Rattle.rules.proofs.Replay.Mark.{First}
use Rattle.rules.proofs.Undo.RunFirst.{first_in}
use Rattle.rules.proofs.Replay.RunsLeft.{runs_mark}
use Rattle.rules.proofs.Replay.Neat.{run_in, unrun_clear}
use Rattle.rules.proofs.Replay.LeastUnrun.{first_least}
use Rattle.rules.proofs.Undo.Agree.{New}
use Rattle.rules.proofs.Undo.Count.{undone_run}
use Rattle.rules.proofs.Calls.Invariant.{sends_new}
use Rattle.rules.proofs.Calls.Step.{run_inside, run_good, can_run, run_queue}
use Rattle.rules.proofs.Calls.Answered.{first_of}
use Rattle.engine_ends.specs.Ends.{first_unrun}
use Rattle.engine_rows.specs.Layout.{station_row, slot_row}
use Rattle.line.specs.Widths.{EventFits, StateFits}
use Rattle.entry.specs.Entry.{event_at}
use Rattle.engine_records.specs.Records.{state_at, stored_config}
use Rattle.entry.proofs.EntryLaws.{event_fits}
use Rattle.engine_records.proofs.Fits.{state_fits}
use Rattle.engine_index.specs.Layout.{free_ring, slot_of, IsSlot}
use Rattle.engine_index.proofs.Places.FoundSlot.{FindsSlot}
use Rattle.engine_index.specs.Represents.{cell}
use Rattle.engine_events.specs.Represents.{nonzero, Nodes, none}
use Rattle.engine_events.specs.Promises.{AfterHeader}
use Rattle.engine_moves.specs.Promises.{RunsEvent, HoldsAmong}
use Rattle.engine_rollback.proofs.Cells.{held_length}
use Rattle.engine_promises.specs.Represents.{Represents}
use Rattle.engine_promises.specs.Promises as P
use Rattle.engine_promises.specs.Steps.{HasRoom}
use Rattle.engine_running.specs.Steps.{AddsSend}
use Rattle.engine_promises.proofs.Invariant.{made, invariant, neat, waiting, mid, reached_next}
use Rattle.engine_promises.proofs.Header.{header_kept}
use Rattle.engine_promises.proofs.PostRunChecks.{run_14, run_16, run_17, run_accepted}
use Rattle.engine_promises.proofs.FoundSlots.{cell_slot, slot_event}
use Rattle.engine_running.proofs.FirstUnrun.{Waits, waiting_found}
use Rattle.line.proofs.SendFits.{sends_fit, after_fits}
use Rattle.engine_running.proofs.Outcomes.{over_passes, within_is, outcome_of, sends_few}
use Rattle.engine_running.proofs.SendsAdded.{Ready, Stage, send_more}

-- what the call reads, where it finds a slot
pub record Reads (n c s x : ℕ) (xs : List ℕ) (v : Event) (r : Option Effect) : Type 0 where
  pub inside : s < n
  pub next : x ≡ first_unrun xs n c s
  pub above : free_ring n < x
  pub event : v ≡ event_at (slot_row n (slot_of n x)) xs
  pub outcome : said r ≡ counted (run_at (stored_config (station_row n s) xs) (state_at (station_row n s + 32) xs) v)

pub reads_of : {n c s x i : ℕ} {xs : List ℕ} {v : Event} {r : Option Effect} {g : Config} {b : State} → s < n → x ≡ first_unrun xs n c s
    → FindsSlot n c (length xs) x i → i < c → v ≡ event_at (slot_row n i) xs → g ≡ stored_config (station_row n s) xs → b ≡ state_at (station_row n s + 32) xs
    → said r ≡ counted (run_at g b v) → Reads n c s x xs v r
reads_of {xs = xs} l i F h j k m o = record { inside = l; next = i; above = (F.sound h).0.above; event = slot_event F xs h j; outcome = rw (k, m) at o }

module _ {p : Plan} {e : Engine} {xs : List ℕ} (R : Represents p e xs) {s x : ℕ} (l : s < p.count)
    (i : x ≡ first_unrun xs p.count e.setting.capacity s) where
  pub idle_so : (IsSlot p.count e.setting.capacity (length xs) x → ⊥) → judged (checks p e (RunStation s)) ≡ refused 14
  idle_so z = go (waiting_found s x l i R.holds)
    where
      go : ((x ≡ 0) × (least_unrun s e.queue.held ≡ nothing)) ⊎ Waits p.count s x xs e.queue R.cells → judged (checks p e (RunStation s)) ≡ refused 14
      go (inl w) = run_14 p e s l w.1
      go (inr w) = absurd (z (cell_slot R.holds.stores.stands (cell x (unrun w.waiting)) w.at))

  pub some_waits : free_ring p.count < x → Waits p.count s x xs e.queue R.cells
  some_waits h = go (waiting_found s x l i R.holds)
    where
      go : ((x ≡ 0) × (least_unrun s e.queue.held ≡ nothing)) ⊎ Waits p.count s x xs e.queue R.cells → Waits p.count s x xs e.queue R.cells
      go (inl w) = absurd (omega (arith, w.0))
      go (inr w) = w

module _ {p : Plan} {e : Engine} {xs : List ℕ} (R : Represents p e xs) {s x : ℕ} {v : Event} {r : Option Effect}
    (G : Reads p.count e.setting.capacity s x xs v r)
    (W : Waits p.count s x xs e.queue R.cells) where
  abbrev w : Event
  w = W.waiting

  abbrev b : State
  b = e.queue.states w.target

  abbrev o : Outcome
  o = run_event p b w

  v_is : v ≡ w
  v_is = G.event ∙ W.stands

  outcome_is : said r ≡ counted o
  unfolding run_event
  outcome_is =
      let st = e.queue.states in
      G.outcome
      ∙ ap (λ g. counted (run_at g (state_at (station_row p.count s + 32) xs) v)) (R.holds.stores.configs s G.inside)
      ∙ ap (λ h. counted (run_at (p.config s) h v)) (R.holds.stores.states s G.inside)
      ∙ ap (λ y. counted (run_at (p.config s) (st s) y)) v_is
      ∙ ap (λ t. counted (run_at (p.config t) (st t) w)) (sym W.target_is)

  pub over_so : r ≡ None → judged (checks p e (RunStation s)) ≡ refused 16
  over_so z = run_16 p e s G.inside w W.least (over_passes o (ap said (sym z) ∙ outcome_is))

  module _ (f : Effect) (t : r ≡ Some f) where
    is_within : (counts_pass o.after ≡ false) × (o ≡ outcome_of f)
    is_within = within_is o (outcome_of f) (ap said (sym t) ∙ outcome_is)

    sends_are : o.sends ≡ sends_of f.first ++ sends_of f.second
    sends_are = ap (λ (y : Outcome). y.sends) is_within.1

    number_of : length o.sends ≡ length (sends_of f.first) + length (sends_of f.second)
    number_of = ap length sends_are ∙ length-append (sends_of f.first) (sends_of f.second)

    held_are : length e.queue.held ≡ length R.cells
    held_are = sym (ap length R.holds.stores.held) ∙ held_length R.cells

    -- how many places the sends need
    room_says : (room : ℕ) → HasRoom p.count e.setting.capacity xs room
        → leb (length o.sends) room ≡ leb (length R.cells + length o.sends) e.setting.capacity
    room_says room h =
        h p e.setting e.now e.queue R.cells R.holds (length o.sends) (omega (arith, number_of, sends_few f.first, sends_few f.second))

    pub full_so : {room : ℕ} → HasRoom p.count e.setting.capacity xs room → room < length (sends_of f.first) + length (sends_of f.second)
        → judged (checks p e (RunStation s)) ≡ refused 17
    full_so {room} h k =
        let z : leb (length R.cells + length o.sends) e.setting.capacity ≡ false =
        sym (room_says room h) ∙ lt-leb (length o.sends) room (omega (arith, number_of)) in
        run_17 p e s G.inside w W.least is_within.0 (omega (arith, leb-false (length R.cells + length o.sends) e.setting.capacity z, held_are))
        (omega (arith, held_are, R.holds.stores.places))

    module _ {room : ℕ} (h : HasRoom p.count e.setting.capacity xs room)
        (k : length (sends_of f.first) + length (sends_of f.second) ≤ room) where
      room_for : length R.cells + length o.sends ≤ e.setting.capacity
      room_for =
          leb-true (length R.cells + length o.sends) e.setting.capacity
          (sym (room_says room h) ∙ le-leb (length o.sends) room (omega (arith, number_of)))

      pub accepted_so : judged (checks p e (RunStation s)) ≡ accepted
      accepted_so = run_accepted p e s G.inside w W.least is_within.0 (omega (arith, held_are, room_for))

    -- ---- the sends are added and the event is run

    module _ {room : ℕ} (h : HasRoom p.count e.setting.capacity xs room) (k : length (sends_of f.first) + length (sends_of f.second) ≤ room)
        (low : (j : ℕ) → get_or xs j 0 < 256) where
      first : First w.target w e.queue.held
      first = first_of p R.range e (posts p 0 (made R)) (retracted (made R)) (logs (made R)) (invariant R) s w W.least

      inside : w.target < p.count
      inside = run_inside p R.range e (posts p 0 (made R)) (retracted (made R)) (logs (made R)) (invariant R) w first

      good : Good p.count w.target w.time b.sent o
      good = run_good p R.range e (posts p 0 (made R)) (retracted (made R)) (logs (made R)) (invariant R) w first

      event_fit : EventFits w
      event_fit = subst EventFits W.stands (event_fits (slot_row p.count (slot_of p.count x)) xs low)

      fit : All EventFits o.sends
      fit = sends_fit p R.range b w inside event_fit is_within.0

      state_fit : StateFits f.state
      state_fit =
          subst (λ (y : Outcome). StateFits y.after) is_within.1
          (after_fits p b w
          (subst StateFits (R.holds.stores.states w.target inside) (state_fits (station_row p.count w.target + 32) xs low)) event_fit is_within.0)

      ready : All (Ready p e.now w e.queue.held) o.sends
      ready =
          in_all (Ready p e.now w e.queue.held) o.sends
          (λ y m. each y m (all_in (Sent p.count w.target w.time b.sent o.after.sent) m good.each))
        where
          news : All (λ z. New z e.queue.held) o.sends
          news = sends_new p R.range e (posts p 0 (made R)) (retracted (made R)) (logs (made R)) (invariant R) w inside

          each : (y : Event) → Memᴰ y o.sends → Sent p.count w.target w.time b.sent o.after.sent y
              → Ready p e.now w e.queue.held y
          each y m g = record {
            inside = g.inside;
            new = all_in (λ z. New z e.queue.held) m news;
            fresh =
                fresh_above p R.range y (waiting R) (invariant R).machine.states e.queue.states e.queue.held (invariant R).ok.replay
                (λ _. rw g.source_is g.from);
            later = all_in (Lt w) m (sends_later p R.range b w inside);
            fits = all_in EventFits m fit;
            early = omega (arith, g.after, (R.holds.stores.times (unrun w) (first_in first)).0);
            late = g.timely;
          }

      start : Stage p e.setting p.count e.setting.capacity e.now e.queue (add_all p o.sends e.queue) x w xs 0 [] [] o.sends
      start = record {
        left = e.queue;
        cells = R.cells;
        waiting = waiting R;
        states = (invariant R).machine.states;
        mid = mid R;
        at = W.at;
        first = first;
        state = refl;
        nodes = none;
        waits = tt;
        room = room_for h k;
        rest = refl;
        falls = omega arith;
        each = ready;
        distinct = good.distinct;
      }

      module _ (n1 k1 n2 k2 : ℕ) (ys zs us : List ℕ) (D : AddsSend p.count e.setting.capacity xs f.first n1 k1 ys)
          (E : AddsSend p.count e.setting.capacity ys f.second n2 k2 zs) (T : RunsEvent p.count e.setting.capacity zs x f.state n1 n2 us) (F : AfterHeader xs us) where
        abbrev At : List ℕ → ℕ → List ℕ → List Event → List Event → Type 0
        At = Stage p e.setting p.count e.setting.capacity e.now e.queue (add_all p o.sends e.queue) x w

        one : At ys k1 (nonzero n1) (sends_of f.first) (sends_of f.second)
        one =
            let i : 0 + k1 ≡ k1 = omega arith in
            rw i at (send_more f.first n1 k1 (subst (λ ws. At xs 0 [] [] ws) sends_are start) D)

        two : At zs (k1 + k2) (nonzero n1 ++ nonzero n2) (sends_of f.first ++ sends_of f.second) []
        two = send_more f.second n2 k2 (subst (λ ws. At ys k1 (nonzero n1) (sends_of f.first) ws) (sym (append-nil (sends_of f.second))) one) E

        made_of : Queue → State → State → Queue
        made_of u a c = record { states = update u.states w.target a; held = mark w.target c u.held }

        left : Queue
        left = run_least p e.queue w

        after_is : f.state ≡ o.after
        after_is = sym (ap (λ (y : Outcome). y.after) is_within.1)

        left_is : made_of two.left f.state (two.left.states w.target) ≡ left
        unfolding left made_of run_least add_all
        left_is =
            ap (λ a. made_of two.left a (two.left.states w.target)) after_is ∙ ap (made_of two.left o.after) two.state
            ∙ ap (λ u. made_of u o.after b) two.rest

        later : NoneLater w two.left.held
        later z a m j =
            let k = unrun_clear w two.left.held two.mid.neat.strict two.mid.neat.blocked (first_in two.first) in
            (asym (run_in (λ y c. y.target ≡ w.target → Lt y w) z a two.left.held m k j)).is

        becomes : HoldsAmong p e.setting p.count e.setting.capacity e.now us left two.cells
        unfolding made_of
        becomes =
            subst (λ u. HoldsAmong p e.setting p.count e.setting.capacity e.now us u two.cells) left_is
            (T p e.setting e.now two.left two.cells w two.mid.holds two.at (first_least two.first) later
            (after_is ∙ ap (λ c. (run_event p c w).after) (sym two.state)) state_fit
            (subst (Nodes two.cells (nonzero n1 ++ nonzero n2)) (sym sends_are ∙ ap (λ c. (run_event p c w).sends) (sym two.state)) two.nodes))

        runs_are : runs left.held ≡ suc (runs two.left.held)
        unfolding made_of
        runs_are = ap (λ (u : Queue). runs u.held) (sym left_is) ∙ runs_mark (two.left.states w.target) two.first

        count : undone e.queue.held left.held ≡ k1 + k2
        unfolding left
        count =
            let u = undone_run p R.range (waiting R) (invariant R).machine.states e.queue w (invariant R).ok (neat R).strict first in
            omega (arith, u, runs_are, two.falls)

        does : Does p (AddEach o.sends) (running p e.queue w) left
        unfolding left
        does =
            let d = can_run p R.range e (posts p 0 (made R)) (retracted (made R)) (logs (made R)) (invariant R) w first in
            subst (Does p (AddEach o.sends) (running p e.queue w))
            (run_queue p R.range e (posts p 0 (made R)) (retracted (made R)) (logs (made R)) (invariant R) w first _ d) d

        answers : Answers p e (RunStation s) (Said s (k1 + k2)) (with e left)
        answers =
            subst (λ j. Answers p e (RunStation s) (Said s j) (with e left)) count
            (run (accepted_so h k) W.least does)

        pub run_so : P.Becomes p e (RunStation s) (Said s (k1 + k2)) us
        unfolding with
        run_so = record {
          after = with e left;
          answers = answers;
          represents = record {
            range = R.range;
            reached = reached_next R.reached answers refl;
            stations = header_kept F 0 (omega arith) ∙ R.stations;
            capacity = header_kept F 1 (omega arith) ∙ R.capacity;
            now = header_kept F 2 (omega arith) ∙ R.now;
            next = header_kept F 3 (omega arith) ∙ R.next;
            cells = becomes.after;
            holds = becomes.holds;
          };
        }
