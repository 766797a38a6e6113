-- The plain machine halts: it has a state at every commit time.
-- An event at time t weighs 3 to the power c - t; a step replaces an event by at most two that each weigh at most a third.
use mathlib.Core.Path.{◌≡◌, refl}
use mathlib.Core.Bool.{Bool, true, false, cond}
use mathlib.Core.List.{List, [], ◌∷◌, ◌++◌}
use Prim.Native.Nat.{ℕ, zero, suc, ◌+◌, ◌-◌, ◌*◌, ◌^◌, ◌≤◌, ◌<◌}
use native.Mathlib.Nat.{le_refl, pow-suc}
use native.Mathlib.Omega.{arith}
use lib.ListN.{length}
use Rattle.line.specs.declared.Event.{Event}
use Rattle.line.specs.Event.{before}
use Rattle.rules.specs.Replay.{insert_sorted, insert_all_sorted}
use Rattle.line.specs.Station.{Plan, InRange, States, update}
use Rattle.line.specs.declared.State.{State}
use Rattle.rules.specs.Machine.{Machine}
use Rattle.rules.proofs.Machine.Sorted.{sorted_step, Idle, SortedRuns, rest, go_on}
use Rattle.line.specs.Order.{All}
use Rattle.line.proofs.All.{all_map}
use Rattle.line.proofs.Sends.{event_good, sends_few}
use Rattle.rules.proofs.Replay.Replay.{sends_of, after_of}
use Rattle.rules.proofs.Calls.Commit.{Early, early, late, is_early}
use Rattle.rules.proofs.Machine.Feed.{all_insert_all, Inside, sends_inside}

weight : ℕ → Event → ℕ
weight c x = 3 ^ (c - x.time)

total : ℕ → List Event → ℕ
total c [] = 0
total c (x ∷ ws) = weight c x + total c ws

total_insert : (c : ℕ) (x : Event) (ws : List Event) → total c (insert_sorted x ws) ≡ weight c x + total c ws
unfolding insert_sorted total
total_insert c x [] = refl
total_insert c x (w ∷ ws) = go (before w x) (total_insert c x ws)
  where
    go : (v : Bool) → total c (insert_sorted x ws) ≡ weight c x + total c ws → total c (cond v (w ∷ insert_sorted x ws) (x ∷ w ∷ ws)) ≡ weight c x + (weight c w + total c ws)
    go true i = omega arith
    go false i = refl

total_all : (c : ℕ) (xs ws : List Event) → total c (insert_all_sorted xs ws) ≡ total c xs + total c ws
unfolding insert_all_sorted total
total_all c [] ws = omega arith
total_all c (x ∷ xs) ws = omega (arith, total_insert c x (insert_all_sorted xs ws), total_all c xs ws)

pow_pos3 : (k : ℕ) → 1 ≤ 3 ^ k
pow_pos3 zero = omega arith
pow_pos3 (suc k) = rw (pow-suc 3 k) (omega (arith, pow_pos3 k))

pow_up3 : (j k : ℕ) → j ≤ k → 3 ^ j ≤ 3 ^ k
pow_up3 zero k l = pow_pos3 k
pow_up3 (suc j) zero l = absurd (omega arith)
pow_up3 (suc j) (suc k) l = rw (pow-suc 3 j, pow-suc 3 k) (omega (arith, pow_up3 j k (omega arith)))

pow_mono3 : (j k : ℕ) → j < k → 3 * 3 ^ j ≤ 3 ^ k
pow_mono3 j zero l = absurd (omega arith)
pow_mono3 j (suc k) l = rw (pow-suc 3 k) (omega (arith, pow_up3 j k (omega arith)))

few_light : (c a : ℕ) (xs : List Event) → length xs ≤ 2 → All (λ y. 3 * weight c y ≤ a) xs → 1 ≤ a → suc (total c xs) ≤ a
unfolding total
few_light c a [] l h p = omega arith
few_light c a (x ∷ []) l h p = omega (arith, h.0)
few_light c a (x ∷ y ∷ []) l h p = omega (arith, h.0, h.1.0)
few_light c a (x ∷ y ∷ z ∷ xs) l h p = absurd (omega arith)

module _ (p : Plan) (S : InRange p) (c : ℕ) where
  step_light : (x : Event) (b : State) → x.target < p.count → x.time < c → suc (total c (sends_of p b x)) ≤ weight c x
  unfolding weight
  step_light x b h l =
      few_light c (weight c x) (sends_of p b x) (sends_few p b x)
      (all_map (λ y w. pow_mono3 (c - y.time) (c - x.time) (omega (arith, w.after, l))) (sends_of p b x) (event_good p S b x h).each)
      (pow_pos3 (c - x.time))

  halts_within : (n : ℕ) (ws : List Event) (st : States) (log : List Event) → total c ws ≤ n → All (Inside p S) ws
      → (k : Machine) × SortedRuns p c (record { waiting = ws; states = st; log = log }) k
  unfolding total Idle sorted_step weight
  halts_within zero [] st log l a = (record { waiting = []; states = st; log = log }, rest tt)
  halts_within zero (x ∷ ws) st log l a = absurd (omega (arith, l, pow_pos3 (c - x.time)))
  halts_within (suc n) [] st log l a = (record { waiting = []; states = st; log = log }, rest tt)
  halts_within (suc n) (x ∷ ws) st log l a =
      go (is_early x.time c)
      (λ k j. halts_within n (insert_all_sorted (sends_of p (st x.target) x) ws) (update st x.target (after_of p (st x.target) x)) (log ++ (x ∷ [])) k j)
    where
      xs : List Event
      xs = sends_of p (st x.target) x

      next : Machine
      next = record { waiting = insert_all_sorted xs ws; states = update st x.target (after_of p (st x.target) x); log = log ++ (x ∷ []) }

      go : Early x.time c → (total c (insert_all_sorted xs ws) ≤ n → All (Inside p S) (insert_all_sorted xs ws) → (k : Machine) × SortedRuns p c next k)
          → (k : Machine) × SortedRuns p c (record { waiting = x ∷ ws; states = st; log = log }) k
      go (late j _) ih = (record { waiting = x ∷ ws; states = st; log = log }, rest j)
      go (early j _) ih =
          let r =
          ih (omega (arith, l, total_all c xs ws, step_light x (st x.target) a.0 j))
          (all_insert_all (Inside p S) xs ws (all_map (λ y w. w.0) xs (sends_inside p S (st x.target) x a.0)) a.1) in
          (r.0, go_on j r.1)

  -- whatever waits inside the plan, the machine has a state at c
  pub halts_from : (m : Machine) → All (Inside p S) m.waiting → (k : Machine) × SortedRuns p c m k
  halts_from m a = halts_within (total c m.waiting) m.waiting m.states m.log (le_refl _) a
