-- The laws of running an event, which are all that anything above it uses: the sends come later than their cause and not after the horizon,
-- from the station, to itself or a lower one, at most two, with the numbers from `sent` on.
use mathlib.Core.Path.{◌≡◌, refl}
use mathlib.Core.Bool.{Bool, true, false, cond}
use mathlib.Core.List.{[], ◌∷◌, ◌++◌}
use Prim.Native.Nat.{ℕ, suc, ◌+◌, ◌≤◌, ◌<◌}
use native.Mathlib.Nat.{le_refl}
use native.Mathlib.Omega.{arith}
use lib.ListN.{length, length-append}
use lib.Dec.{leb, leb→le}
use Rattle.refusal.specs.Tests.{horizon}
use Rattle.line.specs.declared.Config.{Config}
use Rattle.line.specs.declared.Event.{Event}
use Rattle.line.specs.declared.Matter.{Matter}
use Rattle.line.specs.declared.State.{State}
use Rattle.line.specs.Station.{Plan, InRange, Outcome, count_send, send, silent, period, drawn_state, lose, hear, run_matter, run_at, run_event}
use Rattle.line.specs.Order.{Differ, All}
use Rattle.line.proofs.Either.{either}
use Rattle.line.proofs.Order.{differ_number}
use Rattle.line.proofs.Fits.{Fits, fits}
use Rattle.line.proofs.All.{all_map, all_snoc, Distinct, distinct_snoc}
use Rattle.line.proofs.Outcomes.{MayLeave, unchanged, lost, heard, level, MaySend, next_reading, own_frame, repeated, passed_on, Possible, none, one, two, possible, by_outcome}

-- the event of one more send of station s on o, and o with that send made
abbrev pub sending : ℕ → ℕ → ℕ → Matter → Outcome → Event
sending s u to m o = record { time = u; target = to; source = s; number = o.after.sent; matter = m }

abbrev pub made : ℕ → ℕ → ℕ → Matter → Outcome → Outcome
made s u to m o = record {
  after = count_send o.after;
  sends = o.sends ++ (sending s u to m o ∷ []);
}

-- y is sent by station s of n after time t, with a number from lo up to, not including, hi
pub record Sent (n s t lo hi : ℕ) (y : Event) : Type 0 where
  pub source_is : y.source ≡ s
  pub from : lo ≤ y.number
  pub to : y.number < hi
  pub after : t < y.time
  pub timely : y.time ≤ horizon
  pub inside : y.target < n

-- what holds of an outcome at station s of n, at time t, of a state whose next number was lo
pub record Good (n s t lo : ℕ) (o : Outcome) : Type 0 where
  pub each : All (Sent n s t lo o.after.sent) o.sends
  pub distinct : Distinct o.sends
  pub total : o.after.sent ≡ lo + length o.sends

pub grows : {n s t lo : ℕ} {o : Outcome} → Good n s t lo o → lo ≤ o.after.sent
grows g = omega (arith, g.total)

module _ (n s t lo : ℕ) where
  silent_good : (st : State) → st.sent ≡ lo → Good n s t lo (silent st)
  unfolding silent
  silent_good st h = record { each = tt; distinct = tt; total = omega arith }

  send_good : (u to : ℕ) (m : Matter) (o : Outcome) → t < u → to < n → Good n s t lo o → Good n s t lo (send s u to m o)
  unfolding send
  send_good u to m o h k g = go (leb u horizon) refl
    where
      y : Event
      y = sending s u to m o

      wider : (x : Event) → Sent n s t lo o.after.sent x → Sent n s t lo (suc o.after.sent) x
      wider x w = record { source_is = w.source_is; from = w.from; to = omega (arith, w.to); after = w.after; timely = w.timely; inside = w.inside }

      apart : (x : Event) → Sent n s t lo o.after.sent x → Differ x y
      apart x w = differ_number x y (omega (arith, w.to))

      in_time : u ≤ horizon → Good n s t lo (made s u to m o)
      in_time l = record {
        each =
            all_snoc (Sent n s t lo (suc o.after.sent)) o.sends y (all_map wider o.sends g.each)
            (record { source_is = refl; from = grows g; to = le_refl _; after = h; timely = l; inside = k });
        distinct = distinct_snoc o.sends y (all_map apart o.sends g.each) g.distinct;
        total = omega (arith, g.total, length-append o.sends (y ∷ []));
      }

      go : (v : Bool) → leb u horizon ≡ v → Good n s t lo (cond v (made s u to m o) o)
      go true e = in_time (leb→le u horizon (rw e tt))
      go false e = g

-- a state that is left has the number that the next send takes
sent_kept : {t : ℕ} {st v : State} {m : Matter} → MayLeave t st m v → v.sent ≡ st.sent
unfolding lose hear drawn_state
sent_kept unchanged = refl
sent_kept lost = refl
sent_kept heard = refl
sent_kept level = refl

module _ (s : ℕ) (c : Config) (F : Fits s c) where
  period_least : (st : State) → 1 ≤ period c st
  unfolding period
  period_least st = either (λ n. 1 ≤ n) (leb c.threshold st.level) c.spring c.calm F.spring_least F.calm_least

  later : {t : ℕ} {st : State} {u to : ℕ} {m k : Matter} → MaySend c s t st m u to k → t < u
  later {st = st} next_reading = omega (arith, period_least st)
  later own_frame = omega (arith, F.hop_least)
  later (repeated h) = omega (arith, F.hop_least)
  later passed_on = omega (arith, F.hop_least)

  lower : {t : ℕ} {st : State} {u to : ℕ} {m k : Matter} → MaySend c s t st m u to k → to ≤ s
  lower next_reading = le_refl s
  lower own_frame = F.parent_most
  lower (repeated h) = le_refl s
  lower passed_on = F.parent_most

  matter_good : (n t : ℕ) → s < n → (m : Matter) (st : State) → Good n s t st.sent (run_matter c s t m st)
  matter_good n t h m st =
      by_outcome (Good n s t st.sent) c s t st m (λ v l. silent_good n s t st.sent v (sent_kept l))
      (λ u to k o a g. send_good n s t st.sent u to k o (later a) (omega (arith, lower a)) g)

station_fits : (p : Plan) → InRange p → (s : ℕ) → s < p.count → Fits s (p.config s)
station_fits p S s h = fits s (p.config s) (S.each s h)

-- the law that everything above rests on
pub event_good : (p : Plan) → InRange p → (st : State) (x : Event) → x.target < p.count → Good p.count x.target x.time st.sent (run_event p st x)
unfolding run_event run_at
event_good p S st x h = matter_good x.target (p.config x.target) (station_fits p S x.target h) p.count x.time h x.matter st

-- ---- each send is one that may be made

silent_all : (P : Event → Type 0) (st : State) → All P (silent st).sends
unfolding silent
silent_all P st = tt

send_all : (P : Event → Type 0) (s u to : ℕ) (m : Matter) (o : Outcome) → P (sending s u to m o) → All P o.sends → All P (send s u to m o).sends
unfolding send
send_all P s u to m o h a = either (λ r. All P r.sends) (leb u horizon) (made s u to m o) o (all_snoc P o.sends (sending s u to m o) a h) a

-- y is one of those that running x from st may send
abbrev Allowed : Plan → State → Event → Event → Type 0
Allowed p st x y = MaySend (p.config x.target) x.target x.time st x.matter y.time y.target y.matter

pub sends_allowed : (p : Plan) (st : State) (x : Event) → All (Allowed p st x) (run_event p st x).sends
unfolding run_event run_at
sends_allowed p st x =
    by_outcome (λ o. All (Allowed p st x) o.sends) (p.config x.target) x.target x.time st x.matter
    (λ v l. silent_all (Allowed p st x) v) (λ u to k o a i. send_all (Allowed p st x) x.target u to k o a i)

-- to the station itself or a lower one
pub sends_down : (p : Plan) → InRange p → (st : State) (x : Event) → x.target < p.count → All (λ y. y.target ≤ x.target) (run_event p st x).sends
sends_down p S st x h =
    all_map (λ y a. lower x.target (p.config x.target) (station_fits p S x.target h) a) (run_event p st x).sends (sends_allowed p st x)

-- ---- at most two sends

silent_few : (st : State) → length (silent st).sends ≡ 0
unfolding silent
silent_few st = refl

send_few : (s u to : ℕ) (m : Matter) (o : Outcome) → length (send s u to m o).sends ≤ suc (length o.sends)
unfolding send
send_few s u to m o =
    either (λ r. length r.sends ≤ suc (length o.sends)) (leb u horizon) (made s u to m o) o (omega (arith, length-append o.sends (sending s u to m o ∷ [])))
    (omega arith)

possible_few : {c : Config} {s t : ℕ} {st : State} {m : Matter} {o : Outcome} → Possible c s t st m o → length o.sends ≤ 2
possible_few (none {v} l) = omega (arith, silent_few v)
possible_few {s = s} (one {v} {u} {to} {k} l a) = omega (arith, silent_few v, send_few s u to k (silent v))
possible_few {s = s} (two {v} {u} {to} {u'} {to'} {k} {k'} l a b) =
    omega (arith, silent_few v, send_few s u to k (silent v), send_few s u' to' k' (send s u to k (silent v)))

pub sends_few : (p : Plan) (st : State) (x : Event) → length (run_event p st x).sends ≤ 2
unfolding run_event run_at
sends_few p st x = possible_few (possible (p.config x.target) x.target x.time st x.matter)
