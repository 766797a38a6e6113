-- The plain machine: it is deterministic, goes on from where it stopped, and an event at or after the commit time that it was not
-- fed, or was, changes nothing but its waiting events.
use mathlib.Core.Path.{◌≡◌, sym, ap, ◌∙◌, subst}
use mathlib.Core.Bool.{Bool, true, false, cond}
use mathlib.Core.List.{List, [], ◌∷◌}
use Prim.Native.Nat.{ℕ, ◌≤◌, ◌<◌}
use native.Mathlib.Nat.{le_trans}
use native.Mathlib.Omega.{arith}
use Rattle.line.specs.declared.Event.{Event}
use Rattle.line.specs.Event.{before}
use Rattle.rules.specs.Replay.{insert_sorted, insert_all_sorted, Replay}
use Rattle.rules.proofs.Machine.Insert.{insert_lt, insert_all, Where, front, back, insert_where, Uncons, uncons}
use Rattle.line.specs.Station.{Plan, InRange, States, update}
use Rattle.line.specs.declared.State.{State}
use Rattle.rules.specs.Machine.{Machine}
use Rattle.rules.proofs.Machine.Sorted.{sorted_step, Idle, SortedRuns, rest, go_on}
use Rattle.rules.specs.Held.{Held, unrun, ran, event}
use Rattle.line.proofs.Order.{Cmp, less, not_less, cmp, earlier, later_time, differ_source}
use Rattle.line.specs.Order.{Differ, All}
use Rattle.line.proofs.All.{all_map}
use Rattle.line.proofs.Sends.{event_good}
use Rattle.rules.proofs.Replay.Replay.{sends_of, after_of}

pub runs_idle : {p : Plan} {c : ℕ} {m k : Machine} → SortedRuns p c m k → Idle c k.waiting
runs_idle (rest i) = i
runs_idle (go_on l r) = runs_idle r

-- going on to a later commit time
pub runs_trans : {p : Plan} {c d : ℕ} {m k n : Machine} → SortedRuns p c m k → c ≤ d → SortedRuns p d k n → SortedRuns p d m n
runs_trans (rest i) le s = s
runs_trans (go_on l r) le s = go_on (le_trans l le) (runs_trans r le s)

-- what holds of all waiting events and of all sends holds of all events that come up
pub all_insert : (P : Event → Type 0) (x : Event) (ws : List Event) → P x → All P ws → All P (insert_sorted x ws)
unfolding insert_sorted
all_insert P x [] h a = (h, tt)
all_insert P x (w ∷ ws) h a = go (before w x) (all_insert P x ws h a.1)
  where
    go : (v : Bool) → All P (insert_sorted x ws) → All P (cond v (w ∷ insert_sorted x ws) (x ∷ w ∷ ws))
    go true i = (a.0, i)
    go false i = (h, a)

pub all_insert_all : (P : Event → Type 0) (xs ws : List Event) → All P xs → All P ws → All P (insert_all_sorted xs ws)
unfolding insert_all_sorted
all_insert_all P [] ws h a = a
all_insert_all P (x ∷ xs) ws h a = all_insert P x (insert_all_sorted xs ws) h.0 (all_insert_all P xs ws h.1 a)

-- the machine with y waiting too
abbrev pub also_waiting : Event → Machine → Machine
also_waiting y m = record { waiting = insert_sorted y m.waiting; states = m.states; log = m.log }

-- the machine with other waiting events
abbrev pub waiting_for : List Event → Machine → Machine
waiting_for ws m = record { waiting = ws; states = m.states; log = m.log }

idle_insert : (c : ℕ) (y : Event) (ws : List Event) → c ≤ y.time → Idle c ws → Idle c (insert_sorted y ws)
unfolding Idle
idle_insert c y ws l i = go (insert_where y ws)
  where
    go : Where y ws → Idle c (insert_sorted y ws)
    go (front e) = rw e l
    go (back w vs e k f) = rw f (rw e at i)

idle_uninsert : (c : ℕ) (y : Event) (ws : List Event) → c ≤ y.time → Idle c (insert_sorted y ws) → Idle c ws
unfolding Idle insert_sorted
idle_uninsert c y [] l i = tt
idle_uninsert c y (w ∷ ws) l i = go (cmp w y)
  where
    go : Cmp w y → c ≤ w.time
    go (less k) = rw k.is at i
    go (not_less k) = le_trans l (later_time k)

module _ (p : Plan) (S : InRange p) where
  abbrev pub Inside : Event → Type 0
  Inside x = x.target < p.count

  -- sends have stations for sources
  pub sends_inside : (b : State) (x : Event) → Inside x → All (λ y. (y.target < p.count) × (y.source < p.count)) (sends_of p b x)
  sends_inside b x h = all_map (λ y w. (w.inside, rw w.source_is h)) (sends_of p b x) (event_good p S b x h).each

  pub outside_differs : (y : Event) → p.count ≤ y.source → (b : State) (x : Event) → Inside x → All (Differ y) (sends_of p b x)
  outside_differs y o b x h = all_map (λ z w. differ_source y z (omega (arith, w.1, o))) (sends_of p b x) (sends_inside b x h)

  pub runs_all : (P : Event → Type 0) → ((b : State) (x : Event) → Inside x → All P (sends_of p b x)) → ((x : Event) → P x → Inside x)
      → {c : ℕ} {m k : Machine} → SortedRuns p c m k → All P m.waiting → All P k.waiting
  unfolding sorted_step
  runs_all P f g (rest i) a = a
  runs_all P f g (go_on {x = x} {ws = ws} {st = st} l r) a =
      runs_all P f g r (all_insert_all P (sends_of p (st x.target) x) ws (f (st x.target) x (g x a.0)) a.1)

  pub replay_all : (P : Event → Type 0) → ((b : State) (x : Event) → Inside x → All P (sends_of p b x))
      → (ws : List Event) (st cur : States) (h : List Held) → Replay p ws st cur h → All P ws → All (λ y. P (event y)) h
  replay_all P f ws st cur [] r a = tt
  replay_all P f ws st cur (unrun x ∷ h) r a = let b : All P (x ∷ r.0) = rw r.1 at a in (b.0, replay_all P f r.0 st cur h r.4 b.1)
  replay_all P f ws st cur (ran x b ∷ h) r a =
      let d : All P (x ∷ r.0) = rw r.1 at a in
      (d.0, replay_all P f (insert_all_sorted (sends_of p b x) r.0) (update st x.target (after_of p b x)) cur h r.4 (all_insert_all P (sends_of p b x) r.0 (f b x r.2) d.1))

  -- an event from outside at or after c, fed too
  pub runs_insert : (y : Event) → p.count ≤ y.source → {c : ℕ} {m k : Machine} → c ≤ y.time → SortedRuns p c m k → All Inside m.waiting
      → SortedRuns p c (also_waiting y m) (also_waiting y k)
  unfolding sorted_step
  runs_insert y o {c} {m} {k} l (rest i) a = rest (idle_insert c y m.waiting l i)
  runs_insert y o {c} {m} {k} l (go_on {x = x} {ws = ws} {st = st} {log = log} t r) a =
      subst (λ vs. SortedRuns p c (record { waiting = vs; states = st; log = log }) (also_waiting y k)) (sym (insert_lt ws (earlier x y (omega (arith, t, l)))))
      (go_on t
      (subst (λ vs. SortedRuns p c (waiting_for vs (sorted_step p x ws st log)) (also_waiting y k)) (insert_all y xs ws (outside_differs y o b x a.0))
      (runs_insert y o l r (all_insert_all Inside xs ws (all_map (λ z w. w.0) xs (sends_inside b x a.0)) a.1))))
    where
      b : State
      b = st x.target

      xs : List Event
      xs = sends_of p b x

  -- and not fed
  pub runs_uninsert : (y : Event) → p.count ≤ y.source → {c : ℕ} {m k : Machine} → c ≤ y.time → (vs : List Event) → SortedRuns p c m k
      → m.waiting ≡ insert_sorted y vs → All Inside vs
      → (us : List Event) × (k.waiting ≡ insert_sorted y us) × SortedRuns p c (waiting_for vs m) (waiting_for us k)
  unfolding sorted_step insert_all_sorted
  runs_uninsert y o {c} {m} {k} l vs (rest i) e a = (vs, e, rest (idle_uninsert c y vs l (subst (Idle c) e i)))
  runs_uninsert y o {c} {m} {k} l vs (go_on {x = x} {ws = ws} {st = st} {log = log} t r) e a =
      let i =
      runs_uninsert y o l (insert_all_sorted xs u.rest) r
      (ap (insert_all_sorted xs) u.tail ∙ sym (insert_all y xs u.rest (outside_differs y o b x small))) inside in
      (i.0, i.1, subst (λ ts. SortedRuns p c (record { waiting = ts; states = st; log = log }) (waiting_for i.0 k)) (sym u.whole) (go_on t i.2))
    where
      b : State
      b = st x.target

      xs : List Event
      xs = sends_of p b x

      u : Uncons vs x (y ∷ []) ws
      u = uncons (y ∷ []) x vs ws (sym e) (earlier x y (omega (arith, t, l)), tt)

      all : All Inside (x ∷ u.rest)
      all = rw u.whole at a

      small : Inside x
      small = all.0

      inside : All Inside (insert_all_sorted xs u.rest)
      inside = all_insert_all Inside xs u.rest (all_map (λ z w. w.0) xs (sends_inside b x small)) all.1
