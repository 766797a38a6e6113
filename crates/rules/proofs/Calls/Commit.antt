-- What a commit writes is what the plain machine logs next, and what it keeps is held against the machine's new state.
use mathlib.Core.Path.{◌≡◌, refl, sym, ap, ◌∙◌, subst}
use mathlib.Core.Bool.{Bool, true, false, cond, ◌||◌, true≢false}
use mathlib.Core.List.{List, [], ◌∷◌, ◌++◌, append_assoc, append-nil}
use Prim.Native.Nat.{ℕ, ◌≤◌, ◌<◌}
use native.Mathlib.Nat.{le_trans}
use native.Mathlib.Omega.{arith}
use lib.Dec.{ltb, eqb, ltb→lt, nltb→le}
use Rattle.line.specs.declared.Event.{Event}
use Rattle.rules.specs.Replay.{insert_all_sorted, Replay, Above, InOrder}
use Rattle.line.proofs.Order.{Which, this, other, which, later_time}
use Rattle.rules.proofs.Update.{update_other}
use Rattle.line.specs.Station.{Plan, States, update}
use Rattle.rules.specs.Machine.{Machine}
use Rattle.rules.proofs.Machine.Sorted.{sorted_step, Idle, SortedRuns, rest, go_on}
use Rattle.rules.specs.Held.{Held, unrun, ran, event, logged, kept, unrun_before, record_of}
use Rattle.line.specs.Order.{All}
use Rattle.line.proofs.All.{all_map}
use Rattle.rules.proofs.Replay.Replay.{sends_of, after_of}

-- ---- the test of a time

pub data Early (t c : ℕ) : Type 0 where
  early : t < c → ltb t c ≡ true → Early t c
  late : c ≤ t → ltb t c ≡ false → Early t c

pub is_early : (t c : ℕ) → Early t c
is_early t c = go (ltb t c) refl
  where
    go : (v : Bool) → ltb t c ≡ v → Early t c
    go true e = early (ltb→lt t c (rw e tt)) e
    go false e = late (nltb→le t c (rw e tt)) e

-- ---- from a time at or after c on, nothing is logged

pub all_late : (c : ℕ) (h : List Held) → All (λ y. c ≤ (event y).time) h → (logged c h ≡ []) × (kept c h ≡ h)
unfolding logged kept
all_late c [] a = (refl, refl)
all_late c (y ∷ h) a = go (is_early (event y).time c) (all_late c h a.1)
  where
    go : Early (event y).time c → (logged c h ≡ []) × (kept c h ≡ h) → (logged c (y ∷ h) ≡ []) × (kept c (y ∷ h) ≡ y ∷ h)
    go (early l e) i = absurd (omega (arith, a.0))
    go (late l e) i = (rw e i.0, rw e (ap (λ k. y ∷ k) i.1))

pub above_late : (c : ℕ) (x : Event) (h : List Held) → c ≤ x.time → Above x h → All (λ y. c ≤ (event y).time) h
above_late c x h l a = all_map (λ y g. le_trans l (later_time g)) h a

pub logged_early : (c : ℕ) (y : Held) (h : List Held) → ltb (event y).time c ≡ true → logged c (y ∷ h) ≡ event y ∷ logged c h
unfolding logged
logged_early c y h e = rw e

pub kept_early : (c : ℕ) (y : Held) (h : List Held) → ltb (event y).time c ≡ true → kept c (y ∷ h) ≡ kept c h
unfolding kept
kept_early c y h e = rw e

or_left : (a b : Bool) → (a || b) ≡ false → a ≡ false
or_left true b e = e
or_left false b e = refl

-- ---- the commit

-- the machine from waiting events ws, states st and log l to its state at c, and the entries k held against it
pub record Committed (p : Plan) (c : ℕ) (ws : List Event) (st : States) (l : List Event) (cur : States) (new : List Event) (k : List Held) : Type 0 where
  pub waiting : List Event
  pub states : States
  pub runs : SortedRuns p c (record { waiting = ws; states = st; log = l }) (record { waiting = waiting; states = states; log = l ++ new })
  pub replay : Replay p waiting states cur k
  pub sorted : InOrder k

idle_head : (c : ℕ) (x : Event) (ws vs : List Event) → ws ≡ x ∷ vs → c ≤ x.time → Idle c ws
unfolding Idle
idle_head c x ws vs e l = rw e l

halted : (p : Plan) (c : ℕ) (ws : List Event) (st : States) (l : List Event) (cur : States) (h : List Held) → Idle c ws
    → All (λ y. c ≤ (event y).time) h → Replay p ws st cur h → InOrder h
    → Committed p c ws st l cur (logged c h) (kept c h)
halted p c ws st l cur h i a r o = record {
  waiting = ws;
  states = st;
  runs =
      subst (λ k. SortedRuns p c (record { waiting = ws; states = st; log = l }) (record { waiting = ws; states = st; log = k }))
      (sym (append-nil l) ∙ ap (λ k. l ++ k) (sym t.0)) (rest i);
  replay = rw t.1 r;
  sorted = rw t.1 o;
}
  where
    t : (logged c h ≡ []) × (kept c h ≡ h)
    t = all_late c h a

pub commit_log : (p : Plan) (c : ℕ) (ws : List Event) (st : States) (l : List Event) (cur : States) (h : List Held) → Replay p ws st cur h → InOrder h
    → unrun_before c h ≡ false
    → Committed p c ws st l cur (logged c h) (kept c h)
unfolding unrun_before Idle sorted_step
commit_log p c ws st l cur [] r o u = halted p c ws st l cur [] (rw r.0 tt) tt r o
commit_log p c ws st l cur (unrun x ∷ h) r o u = go (is_early x.time c)
  where
    go : Early x.time c → Committed p c ws st l cur (logged c (unrun x ∷ h)) (kept c (unrun x ∷ h))
    go (early k e) = absurd (true≢false (sym e ∙ or_left (ltb x.time c) (unrun_before c h) u))
    go (late k e) = halted p c ws st l cur (unrun x ∷ h) (idle_head c x ws r.0 r.1 k) (k, above_late c x h k o.0) r o
commit_log p c ws st l cur (ran x b ∷ h) r o u =
    go (is_early x.time c)
    (commit_log p c (insert_all_sorted (sends_of p b x) r.0) (update st x.target (after_of p b x)) (l ++ (x ∷ [])) cur h r.4 o.1 u)
  where
    st' : States
    st' = update st x.target (after_of p b x)

    ws' : List Event
    ws' = insert_all_sorted (sends_of p b x) r.0

    go : Early x.time c → Committed p c ws' st' (l ++ (x ∷ [])) cur (logged c h) (kept c h)
        → Committed p c ws st l cur (logged c (ran x b ∷ h)) (kept c (ran x b ∷ h))
    go (late k e) i = halted p c ws st l cur (ran x b ∷ h) (idle_head c x ws r.0 r.1 k) (k, above_late c x h k o.0) r o
    go (early k e) i =
        rw (logged_early c (ran x b) h e, kept_early c (ran x b) h e)
        (record { waiting = i.waiting; states = i.states; runs = all; replay = i.replay; sorted = i.sorted })
      where
        end : List Event → Machine
        end k = record { waiting = i.waiting; states = i.states; log = k }

        from : List Event → Machine
        from k = record { waiting = k; states = st; log = l }

        stepped : SortedRuns p c (sorted_step p x r.0 st l) (end (l ++ (x ∷ logged c h)))
        stepped =
            subst (λ a. SortedRuns p c (record { waiting = insert_all_sorted (sends_of p a x) r.0; states = update st x.target (after_of p a x); log = l ++ (x ∷ []) }) (end (l ++ (x ∷ logged c h)))) r.3
            (subst (λ k. SortedRuns p c (record { waiting = ws'; states = st'; log = l ++ (x ∷ []) }) (end k)) (append_assoc l (x ∷ []) (logged c h)) i.runs)

        all : SortedRuns p c (from ws) (end (l ++ (x ∷ logged c h)))
        all = subst (λ k. SortedRuns p c (from k) (end (l ++ (x ∷ logged c h)))) (sym r.1) (go_on k stepped)

-- ---- the record

pub record_is : (p : Plan) (ws : List Event) (st cur : States) (h : List Held) → Replay p ws st cur h → (s : ℕ) → record_of cur s h ≡ st s
unfolding record_of
record_is p ws st cur [] r s = r.1 s
record_is p ws st cur (unrun x ∷ h) r s = record_is p r.0 st cur h r.4 s
record_is p ws st cur (ran x b ∷ h) r s =
    go (which x.target s) (record_is p (insert_all_sorted (sends_of p b x) r.0) (update st x.target (after_of p b x)) cur h r.4 s)
  where
    go : Which x.target s → record_of cur s h ≡ update st x.target (after_of p b x) s → cond (eqb x.target s) b (record_of cur s h) ≡ st s
    go (this e t) i = rw t (r.3 ∙ ap st e)
    go (other e t) i = rw t (i ∙ update_other st (after_of p b x) (λ j. e (sym j)))
