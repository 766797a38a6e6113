-- The plain machine of specs/Machine takes the same events as its sorted form, so it has one result and always halts.
use mathlib.Core.Path.{◌≡◌, refl, sym, ap, ◌∙◌, subst, subst₂}
use mathlib.Core.List.{List, [], ◌∷◌, ◌++◌, Memᴰ}
use Prim.Native.Nat.{ℕ, ◌≤◌, ◌<◌}
use native.Mathlib.Nat.{le_trans}
use native.Mathlib.Omega.{arith}
use Rattle.line.specs.declared.Event.{Event}
use Rattle.line.specs.Station.{Plan, InRange, States, update}
use Rattle.line.specs.Order.{Lt, Ge, Differ, fst, snd, All}
use Rattle.line.proofs.Order.{Cmp, less, not_less, cmp, differ_sym, irr, clash, asym, lt_ge, later_time}
use Rattle.line.proofs.All.{all_map, Distinct}
use Rattle.rules.specs.Machine.{Machine, Takes, here, there, Least, step, Runs, halt, more}
use Rattle.line.proofs.Members.{all_in, in_all, all_append}
use Rattle.rules.specs.Replay.{insert_sorted, insert_all_sorted}
use Rattle.rules.proofs.Machine.Insert.{insert_all_nil, insert_nil, insert_lt, insert_all, Disjoint, all_all, all_head}
use Rattle.rules.proofs.Machine.Sorted.{sorted_step, Idle, SortedRuns, rest, go_on}
use Rattle.rules.proofs.Replay.Replay.{sends_of, after_of}
use Rattle.rules.proofs.Machine.Feed.{all_insert_all, waiting_for, Inside, sends_inside}
use Rattle.rules.proofs.Replay.Unique.{Keyed, step_parts}
use Rattle.rules.proofs.Machine.Halts.{halts_from}

-- the machine with its waiting events in order
abbrev pub in_order : Machine → Machine
in_order m = record { waiting = insert_all_sorted m.waiting []; states = m.states; log = m.log }

-- ---- lists joined

insert_all_append : (xs ys ws : List Event) → insert_all_sorted (xs ++ ys) ws ≡ insert_all_sorted xs (insert_all_sorted ys ws)
unfolding insert_all_sorted
insert_all_append [] ys ws = refl
insert_all_append (x ∷ xs) ys ws = ap (insert_sorted x) (insert_all_append xs ys ws)

disjoint_sym : (xs ys : List Event) → Disjoint xs ys → Disjoint ys xs
disjoint_sym xs ys d = in_all (λ y. All (Differ y) xs) ys (λ y m. all_map (λ x a. differ_sym (all_in (Differ x) m a)) xs d)

distinct_append : (xs ys : List Event) → Distinct xs → Distinct ys → Disjoint xs ys → Distinct (xs ++ ys)
distinct_append [] ys d e a = e
distinct_append (x ∷ xs) ys d e a = (all_append (Differ x) xs ys d.0 a.0, distinct_append xs ys d.1 e a.1)

-- ---- the least event of a list

-- no event of the list is before x
abbrev Under : Event → List Event → Type 0
Under x ws = All (λ w. Ge w x) ws

least_under : (x : Event) (ws : List Event) → Least x ws → Under x ws
least_under x ws l = in_all (λ w. Ge w x) ws (λ w m. record { is = l w m })

under_least : (x : Event) (ws : List Event) → Under x ws → Least x ws
under_least x ws a w m = (all_in (λ v. Ge v x) m a).is

ahead : {x w : Event} → Differ x w → Ge w x → Lt x w
ahead (fst h) g = h
ahead (snd h) g = absurd (clash h g)

ahead_all : (x : Event) (ws : List Event) → All (Differ x) ws → Under x ws → All (Lt x) ws
ahead_all x [] d u = tt
ahead_all x (w ∷ ws) d u = (ahead d.0 u.0, ahead_all x ws d.1 u.1)

pub takes_all : (P : Event → Type 0) {x : Event} {ws vs : List Event} → Takes x ws vs → All P ws → P x × All P vs
takes_all P here a = a
takes_all P (there t) a = let b = takes_all P t a.1 in (b.0, (a.0, b.1))

takes_distinct : {x : Event} {ws vs : List Event} → Takes x ws vs → Distinct ws → Distinct vs
takes_distinct here d = d.1
takes_distinct (there {w = w} t) d = ((takes_all (Differ w) t d.0).1, takes_distinct t d.1)

-- the least event comes first in order
takes_first : {x : Event} {ws vs : List Event} → Takes x ws vs → Distinct ws → Under x ws → insert_all_sorted ws [] ≡ x ∷ insert_all_sorted vs []
unfolding insert_all_sorted
takes_first {x} (here {ws = ws}) d u = insert_all x ws [] d.0 ∙ ap (insert_all_sorted ws) (insert_nil x) ∙ all_head x ws [] (ahead_all x ws d.0 u.1)
takes_first (there {w = w} {vs = vs} t) d u =
    ap (insert_sorted w) (takes_first t d.1 u.1) ∙ insert_lt (insert_all_sorted vs []) (ahead (differ_sym (takes_all (Differ w) t d.0).0) u.0)

-- and it is one event in one place
takes_one : {x y : Event} {ws vs us : List Event} → Takes x ws vs → Takes y ws us → Distinct ws → Under x ws → Under y ws → (x ≡ y) × (vs ≡ us)
takes_one here here d u v = (refl, refl)
takes_one {x} (here {ws = ws}) (there s) d u v = absurd (clash (takes_all (Lt x) s (ahead_all x ws d.0 u.1)).0 v.0)
takes_one {y = y} (there {ws = ws} t) here d u v = absurd (clash (takes_all (Lt y) t (ahead_all y ws d.0 v.1)).0 u.0)
takes_one (there {w = w} t) (there s) d u v = let e = takes_one t s d.1 u.1 v.1 in (e.0, ap (λ l. w ∷ l) e.1)

-- every list but the empty one has a least event
data Lowest (ws : List Event) : Type 0 where
  none : ws ≡ [] → Lowest ws
  some : (x : Event) (vs : List Event) → Takes x ws vs → Under x ws → Lowest ws

lowest : (ws : List Event) → Lowest ws
lowest [] = none refl
lowest (w ∷ ws) = go (lowest ws)
  where
    two : (x : Event) (vs : List Event) → Takes x ws vs → Under x ws → Cmp w x → Lowest (w ∷ ws)
    two x vs t u (less h) = some w ws here (irr w, all_map (λ v g. asym (lt_ge h g)) ws u)
    two x vs t u (not_less h) = some x (w ∷ vs) (there t) (h, u)

    go : Lowest ws → Lowest (w ∷ ws)
    go (none e) = some w ws here (irr w, rw e tt)
    go (some x vs t u) = two x vs t u (cmp w x)

-- ---- what waits for a later commit

abbrev Late : ℕ → Event → Type 0
Late c w = c ≤ w.time

all_idle : (c : ℕ) (ws : List Event) → All (Late c) ws → Idle c ws
unfolding Idle
all_idle c [] a = tt
all_idle c (w ∷ ws) a = a.0

idle_all : (c : ℕ) (ws : List Event) → Distinct ws → Idle c (insert_all_sorted ws []) → All (Late c) ws
unfolding Idle
idle_all c ws d i = go (lowest ws)
  where
    go : Lowest ws → All (Late c) ws
    go (none e) = rw e tt
    go (some x vs t u) = let l : Late c x = rw (takes_first t d u) at i in all_map (λ w g. le_trans l (later_time g)) ws u

-- a machine at rest takes no step
no_step : {c : ℕ} {x : Event} {ws vs : List Event} → ((w : Event) → Memᴰ w ws → c ≤ w.time) → Takes x ws vs → x.time < c → ⊥
no_step {c} {ws = ws} h t l = omega (arith, (takes_all (Late c) t (in_all (Late c) ws h)).0)

module _ (p : Plan) (S : InRange p) where
  -- no two waiting events have one key, each has a number that its source has passed, and all are at stations
  pub record Ready (m : Machine) : Type 0 where
    pub keyed : Keyed p S m.waiting m.states
    pub inside : All (Inside p S) m.waiting

  -- a step leaves the machine ready, and its sorted form takes the same step
  step_both : (m : Machine) {x : Event} {vs : List Event} → Ready m → Takes x m.waiting vs
      → Ready (step p x vs m) × (in_order (step p x vs m) ≡ sorted_step p x (insert_all_sorted vs []) m.states m.log)
  unfolding step sorted_step
  step_both m {x} {vs} q t = (
    record {
      keyed = record { distinct = distinct_append vs xs k.1.distinct k.0.distinct apart; low = all_append _ vs xs k.1.low k.0.low };
      inside = all_append (Inside p S) vs xs i.1 (all_map (λ y w. w.0) xs (sends_inside p S (m.states x.target) x i.0));
    },
    ap (λ ws. waiting_for ws (step p x vs m)) (insert_all_append vs xs [] ∙ all_all vs xs [] apart),
  )
    where
      xs : List Event
      xs = sends_of p (m.states x.target) x

      st : States
      st = update m.states x.target (after_of p (m.states x.target) x)

      i : Inside p S x × All (Inside p S) vs
      i = takes_all (Inside p S) t q.inside

      k : Keyed p S xs st × Keyed p S vs st × Disjoint xs vs
      k =
          step_parts p S x vs m.states (m.states x.target) i.0 refl
          (record { distinct = takes_distinct t q.keyed.distinct; low = (takes_all _ t q.keyed.low).1 })

      apart : Disjoint vs xs
      apart = disjoint_sym xs vs k.2

  -- what the plain machine does, its sorted form does
  pub to_order : {c : ℕ} {m k : Machine} → Ready m → Runs p c m k → SortedRuns p c (in_order m) (in_order k)
  to_order {c} {m} q (halt h) = rest (all_idle c (insert_all_sorted m.waiting []) (all_insert_all (Late c) m.waiting [] (in_all (Late c) m.waiting h) tt))
  to_order {c} {m} {k} q (more {x = x} t l e r) =
      subst (λ ws. SortedRuns p c (waiting_for ws m) (in_order k)) (sym (takes_first t q.keyed.distinct (least_under x m.waiting l)))
      (go_on e (subst (λ n. SortedRuns p c n (in_order k)) (step_both m q t).1 (to_order (step_both m q t).0 r)))

  -- the same for any machine s that is the sorted form of m, so that the induction is on the sorted run
  follow : {c : ℕ} {s n : Machine} → SortedRuns p c s n → (m : Machine) → Ready m → s ≡ in_order m → (k : Machine) × Runs p c m k × (in_order k ≡ n)
  follow {c} (rest i) m q e = (m, halt (λ w j. all_in (Late c) j (idle_all c m.waiting q.keyed.distinct (subst (λ k. Idle c k.waiting) e i))), sym e)
  follow {c} {n = n} (go_on {x = x} {ws = ws} {st = st} {log = log} l r) m q e = go (lowest m.waiting) (λ k g f. follow r k g f)
    where
      waits : x ∷ ws ≡ insert_all_sorted m.waiting []
      waits = ap (λ k. k.waiting) e

      go : Lowest m.waiting → ((k : Machine) → Ready k → sorted_step p x ws st log ≡ in_order k → (k' : Machine) × Runs p c k k' × (in_order k' ≡ n))
          → (k : Machine) × Runs p c m k × (in_order k ≡ n)
      go (none z) ih = let o : ◌≡◌ {A = ℕ} 0 1 = cc (waits, insert_all_nil []) in absurd (omega arith)
      go (some y vs t u) ih =
          let f = takes_first t q.keyed.distinct u in
          let o : x ≡ y = cc (waits) in
          let b = step_both m q t in
          let i = ih (step p y vs m) b.0 (cc (waits, b.1, ap (λ k. k.states) e, ap (λ k. k.log) e)) in
          (i.0, more {k = i.0} t (under_least y m.waiting u) (subst (λ v. v.time < c) o l) i.1, i.2)

  -- what the sorted form does, the plain machine does
  pub from_order : {c : ℕ} (m : Machine) {n : Machine} → Ready m → SortedRuns p c (in_order m) n → (k : Machine) × Runs p c m k × (in_order k ≡ n)
  from_order m q r = follow r m q refl

  -- the plain machine has one result
  pub one_result : {c : ℕ} {m k n : Machine} → Ready m → Runs p c m k → Runs p c m n → k ≡ n
  one_result q (halt g) (halt h) = refl
  one_result q (halt h) (more t l e r) = absurd (no_step h t e)
  one_result q (more t l e r) (halt h) = absurd (no_step h t e)
  one_result {c} {m} {n = n} q (more {x = x} t l e r) (more {x = y} s j f z) =
      let o = takes_one t s q.keyed.distinct (least_under x m.waiting l) (least_under y m.waiting j) in
      one_result (step_both m q t).0 r (subst₂ (λ v rs. Runs p c (step p v rs m) n) (sym o.0) (sym o.1) z)

  -- the plain machine halts
  pub halts_plain : (c : ℕ) (m : Machine) → Ready m → (k : Machine) × Runs p c m k
  halts_plain c m q =
      let h = halts_from p S c (in_order m) (all_insert_all (Inside p S) m.waiting [] q.inside tt) in
      let f = from_order m q h.1 in
      (f.0, f.1)
