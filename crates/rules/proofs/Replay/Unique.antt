-- No two held events have one key, and no two waiting events of the plain machine.
use mathlib.Core.Path.{◌≡◌, refl, sym, ◌∙◌}
use mathlib.Core.Bool.{Bool, true, false, cond}
use mathlib.Core.List.{List, [], ◌∷◌}
use Prim.Native.Nat.{ℕ, ◌<◌}
use native.Mathlib.Nat.{le_trans}
use native.Mathlib.Omega.{arith}
use Rattle.line.specs.declared.Event.{Event}
use Rattle.line.specs.Event.{before}
use Rattle.rules.specs.Replay.{insert_sorted, insert_all_sorted, Replay, Above, InOrder}
use Rattle.rules.proofs.Machine.Insert.{Disjoint}
use Rattle.line.proofs.Order.{Which, this, other, which, ge_lt, differ_sym, differ_number, differ_source}
use Rattle.rules.proofs.Update.{update_at}
use Rattle.line.specs.Station.{Plan, InRange, States, update, run_event}
use Rattle.line.specs.declared.State.{State}
use Rattle.rules.specs.Machine.{Machine}
use Rattle.rules.proofs.Machine.Sorted.{sorted_step, SortedRuns, rest, go_on}
use Rattle.rules.specs.Held.{Held, unrun, ran, event}
use Rattle.line.specs.Order.{Differ, fst, All}
use Rattle.line.proofs.All.{all_map, Distinct}
use Rattle.line.proofs.Sends.{Sent, Good, event_good}
use Rattle.rules.proofs.Replay.Replay.{sends_of, after_of, sends_later, grows, sent_grows}
use Rattle.rules.proofs.Machine.Feed.{all_insert, all_insert_all, Inside}

distinct_insert : (x : Event) (ws : List Event) → All (Differ x) ws → Distinct ws → Distinct (insert_sorted x ws)
unfolding insert_sorted
distinct_insert x [] a d = (tt, tt)
distinct_insert x (w ∷ ws) a d = go (before w x) (distinct_insert x ws a.1 d.1) (all_insert (Differ w) x ws (differ_sym a.0) d.0)
  where
    go : (v : Bool) → Distinct (insert_sorted x ws) → All (Differ w) (insert_sorted x ws) → Distinct (cond v (w ∷ insert_sorted x ws) (x ∷ w ∷ ws))
    go true i j = (j, i)
    go false i j = (a, d)

pub distinct_insert_all : (xs ws : List Event) → Distinct xs → Disjoint xs ws → Distinct ws → Distinct (insert_all_sorted xs ws)
unfolding insert_all_sorted
distinct_insert_all [] ws e a d = d
distinct_insert_all (x ∷ xs) ws e a d =
    distinct_insert x (insert_all_sorted xs ws) (all_insert_all (Differ x) xs ws e.0 a.0) (distinct_insert_all xs ws e.1 a.1 d)

-- no two entries have one key
abbrev pub Unique : List Held → Type 0
Unique [] = Unit {0}
Unique (y ∷ h) = All (λ z. Differ (event y) (event z)) h × Unique h

module _ (p : Plan) (S : InRange p) where
  -- a waiting event has a number that its source has passed
  abbrev pub Low : States → Event → Type 0
  Low st y = y.source < p.count → y.number < (st y.source).sent

  pub record Keyed (ws : List Event) (st : States) : Type 0 where
    pub distinct : Distinct ws
    pub low : All (Low st) ws

  pub keyed_insert_all : (xs ws : List Event) (st : States) → Keyed xs st → Keyed ws st → Disjoint xs ws → Keyed (insert_all_sorted xs ws) st
  keyed_insert_all xs ws st k l d = record { distinct = distinct_insert_all xs ws k.distinct d l.distinct; low = all_insert_all (Low st) xs ws k.low l.low }

  -- the sends of an event, and the events that wait on: they have different keys
  pub step_parts : (x : Event) (vs : List Event) (st : States) (b : State) → x.target < p.count → b ≡ st x.target → Keyed vs st
      → Keyed (sends_of p b x) (update st x.target (after_of p b x)) × Keyed vs (update st x.target (after_of p b x)) × Disjoint (sends_of p b x) vs
  step_parts x vs st b h e k = (record { distinct = g.distinct; low = all_map new xs g.each }, record { distinct = k.distinct; low = all_map old vs k.low }, apart)
    where
      xs : List Event
      xs = sends_of p b x

      st' : States
      st' = update st x.target (after_of p b x)

      g : Good p.count x.target x.time b.sent (run_event p b x)
      g = event_good p S b x h

      old : (y : Event) → Low st y → Low st' y
      old y k i = le_trans (k i) (grows p S st b x h e y.source)

      new : (y : Event) → Sent p.count x.target x.time b.sent (after_of p b x).sent y → Low st' y
      new y w i = rw (update_at st (after_of p b x) w.source_is) w.to

      one : (z y : Event) → Sent p.count x.target x.time b.sent (after_of p b x).sent z → Low st y → Differ z y
      one z y w k = go (which y.source x.target)
        where
          go : Which y.source x.target → Differ z y
          go (this q _) =
              let m : y.number < (st x.target).sent = rw q at (k (rw q h)) in
              let n : y.number < b.sent = rw e m in
              differ_number z y (omega (arith, n, w.from))
          go (other q _) = differ_source z y (λ j. q (sym j ∙ w.source_is))

      apart : Disjoint xs vs
      apart = all_map (λ z w. all_map (λ y l. one z y w l) vs k.low) xs g.each

  step_keyed : (x : Event) (vs : List Event) (st : States) (b : State) → x.target < p.count → b ≡ st x.target → Distinct vs → All (Low st) vs
      → Keyed (insert_all_sorted (sends_of p b x) vs) (update st x.target (after_of p b x))
  step_keyed x vs st b h e d l =
      let k = step_parts x vs st b h e (record { distinct = d; low = l }) in
      keyed_insert_all (sends_of p b x) vs (update st x.target (after_of p b x)) k.0 k.1 k.2

  -- an event that differs from the waiting events differs from all that come up later
  differs : (x : Event) (ws : List Event) (st cur : States) (h : List Held) → All (Differ x) ws → Above x h → Replay p ws st cur h
      → All (λ z. Differ x (event z)) h
  differs x ws st cur [] a o r = tt
  differs x ws st cur (unrun y ∷ h) a o r = let b : All (Differ x) (y ∷ r.0) = rw r.1 at a in (b.0, differs x r.0 st cur h b.1 o.1 r.4)
  differs x ws st cur (ran y c ∷ h) a o r =
      let b : All (Differ x) (y ∷ r.0) = rw r.1 at a in (
        b.0,
        differs x (insert_all_sorted (sends_of p c y) r.0) (update st y.target (after_of p c y)) cur h
            (all_insert_all (Differ x) (sends_of p c y) r.0 (all_map (λ z l. fst (ge_lt o.0 l)) (sends_of p c y) (sends_later p S c y r.2)) b.1) o.1 r.4,
      )

  pub replay_unique : (ws : List Event) (st cur : States) (h : List Held) → Keyed ws st → InOrder h → Replay p ws st cur h → Unique h
  replay_unique ws st cur [] k o r = tt
  replay_unique ws st cur (unrun x ∷ h) k o r =
      let d : Distinct (x ∷ r.0) = rw r.1 at k.distinct in
      let l : All (Low st) (x ∷ r.0) = rw r.1 at k.low in
      (differs x r.0 st cur h d.0 o.0 r.4, replay_unique r.0 st cur h (record { distinct = d.1; low = l.1 }) o.1 r.4)
  replay_unique ws st cur (ran x b ∷ h) k o r =
      let d : Distinct (x ∷ r.0) = rw r.1 at k.distinct in
      let l : All (Low st) (x ∷ r.0) = rw r.1 at k.low in
      let ws' : List Event = insert_all_sorted (sends_of p b x) r.0 in
      let st' : States = update st x.target (after_of p b x) in (
        differs x ws' st' cur h (all_insert_all (Differ x) (sends_of p b x) r.0 (all_map (λ z m. fst m) (sends_of p b x) (sends_later p S b x r.2)) d.0) o.0 r.4,
        replay_unique ws' st' cur h (step_keyed x r.0 st b r.2 r.3 d.1 l.1) o.1 r.4,
      )

  -- a held event has a number that its source has passed
  pub replay_low : (ws : List Event) (st cur : States) (h : List Held) → Keyed ws st → Replay p ws st cur h → All (λ z. Low cur (event z)) h
  replay_low ws st cur [] k r = tt
  replay_low ws st cur (unrun x ∷ h) k r =
      let d : Distinct (x ∷ r.0) = rw r.1 at k.distinct in
      let l : All (Low st) (x ∷ r.0) = rw r.1 at k.low in
      ((λ i. le_trans (l.0 i) (sent_grows p S r.0 st cur h r.4 x.source)), replay_low r.0 st cur h (record { distinct = d.1; low = l.1 }) r.4)
  replay_low ws st cur (ran x b ∷ h) k r =
      let d : Distinct (x ∷ r.0) = rw r.1 at k.distinct in
      let l : All (Low st) (x ∷ r.0) = rw r.1 at k.low in
      let ws' : List Event = insert_all_sorted (sends_of p b x) r.0 in
      let st' : States = update st x.target (after_of p b x) in
      ((λ i. le_trans (l.0 i) (le_trans (grows p S st b x r.2 r.3 x.source) (sent_grows p S ws' st' cur h r.4 x.source))), replay_low ws' st' cur h (step_keyed x r.0 st b r.2 r.3 d.1 l.1) r.4)

  pub runs_keyed : {c : ℕ} {m k : Machine} → SortedRuns p c m k → All (Inside p S) m.waiting → Keyed m.waiting m.states
      → Keyed k.waiting k.states
  unfolding sorted_step
  runs_keyed (rest i) a d = d
  runs_keyed (go_on {x = x} {ws = ws} {st = st} l r) a d =
      runs_keyed r (all_insert_all (Inside p S) (sends_of p (st x.target) x) ws (all_map (λ y w. w.inside) (sends_of p (st x.target) x) (event_good p S (st x.target) x a.0).each) a.1)
      (step_keyed x ws st (st x.target) a.0 refl d.distinct.1 d.low.1)
