-- A record: the first run event of the station is the first of its ring, and its slot has the state from before it.
use mathlib.Core.Path.{◌≡◌, refl, sym, ◌∙◌}
use mathlib.Core.Logic.{◌≢◌}
use mathlib.Core.List.{List, [], ◌∷◌, ◌++◌}
use Prim.Native.Nat.{ℕ, ◌+◌, ◌≤◌, ◌<◌}
use native.Mathlib.Omega.{arith}
use borrow.Author.Tests.{eq-eqb, ne_eqb, le-leb, lt-leb}
use Rattle.words.specs.Le.{load_at}
use Rattle.refusal.specs.Tests.{accepted, refused, or_next, judged}
use Rattle.line.specs.declared.Event.{Event}
use Rattle.line.specs.declared.State.{State}
use Rattle.line.specs.Station.{Plan, States}
use Rattle.rules.specs.Held.{Held, unrun, ran, record_of}
use Rattle.rules.specs.Engine.{Engine, Record, Refused, Recorded}
use Rattle.rules.specs.Checks.{checks}
use Rattle.rules.specs.Calls.{refuse, recorded}
use Rattle.engine_rows.specs.Layout.{station_row, slot_row}
use Rattle.engine_records.specs.Records.{state_at}
use Rattle.engine_index.specs.Layout.{run_ring, slot_of}
use Rattle.engine_index.specs.Represents.{Cell, cell, ring_of, Stands, NoneIn}
use Rattle.engine_ends.specs.Ends.{first_run}
use Rattle.engine_ends.proofs.Ends.{first_run_none, first_run_is}
use Rattle.engine_index.proofs.Changes.Mark.{node_of}
use Rattle.engine_index.proofs.Rings.RingSearches.{First, none, some, first}
use Rattle.engine_events.specs.Represents.{held_of}
use Rattle.engine_promises.specs.Represents.{Represents}
use Rattle.engine_promises.specs.Promises.{Becomes, Answered}
use Rattle.engine_promises.specs.Steps.{at_most}
use Rattle.engine_promises.proofs.Header.{fits_read}

-- ---- the rules' record

module _ (st : States) (n s : ℕ) where
  -- cells that are not in the station's run ring do not count
  pass : (x : ℕ) (h : Held) (hs : List Held) → ring_of n h ≢ run_ring n s → record_of st s (h ∷ hs) ≡ record_of st s hs
  unfolding record_of
  pass x (unrun e) hs d = refl
  pass x (ran e b) hs d = rw (ne_eqb e.target s (λ q. d (omega arith)))

  record_none : (cells : List Cell) → NoneIn n (run_ring n s) cells → record_of st s (held_of cells) ≡ st s
  unfolding record_of
  record_none [] z = refl
  record_none (y ∷ ys) z = pass y.node y.held (held_of ys) z.0 ∙ record_none ys z.1

  record_first : (A : List Cell) (x : ℕ) (e : Event) (b : State) (B : List Cell) → NoneIn n (run_ring n s) A → e.target ≡ s
      → record_of st s (held_of (A ++ cell x (ran e b) ∷ B)) ≡ b
  unfolding record_of
  record_first [] x e b B z q = rw (eq-eqb e.target s q)
  record_first (y ∷ A) x e b B z q = pass y.node y.held (held_of (A ++ cell x (ran e b) ∷ B)) z.0 ∙ record_first A x e b B z.1 q

-- ---- what the bytes say

-- the state from before a run event, where its node is x; the current one where x is 0
pub record Says (n s x : ℕ) (xs : List ℕ) (v : State) : Type 0 where
  pub current : x ≡ 0 → state_at (station_row n s + 32) xs ≡ v
  pub saved : x ≢ 0 → state_at (slot_row n (slot_of n x) + 24) xs ≡ v

says : {n c : ℕ} {xs : List ℕ} {free : List ℕ} (st : States) (s : ℕ) (cells : List Cell) → s < n → state_at (station_row n s + 32) xs ≡ st s
    → Stands n c xs cells free → Says n s (first_run xs n c s) xs (record_of st s (held_of cells))
says {n} {c} {xs} {free} st s cells l k S = go cells (first n (run_ring n s) cells) S
  where
    at : (A : List Cell) (x : ℕ) (h : Held) (B : List Cell) → NoneIn n (run_ring n s) A → ring_of n h ≡ run_ring n s → Stands n c xs (A ++ cell x h ∷ B) free
        → Says n s (first_run xs n c s) xs (record_of st s (held_of (A ++ cell x h ∷ B)))
    at A x (unrun e) B z q T = absurd (omega (arith, (node_of A (cell x (unrun e)) B T).2))
    at A x (ran e b) B z q T =
        let w = node_of A (cell x (ran e b)) B T in
        let u : first_run xs n c s ≡ x = first_run_is A (cell x (ran e b)) B T s l q z in
        let r : record_of st s (held_of (A ++ cell x (ran e b) ∷ B)) ≡ b = record_first st n s A x e b B z (omega arith) in
        record { current = λ v. absurd (omega (arith, w.1)); saved = λ v. rw (u, r) w.0.2 }

    go : (ys : List Cell) → First n (run_ring n s) ys → Stands n c xs ys free → Says n s (first_run xs n c s) xs (record_of st s (held_of ys))
    go ys (none z) T =
        let u : first_run xs n c s ≡ 0 = first_run_none T s l z in
        record { current = λ v. k ∙ sym (record_none st n s ys z); saved = λ d. absurd (d u) }
    go ys (some A y B z q) T = at A y.node y.held B z q T

module _ {p : Plan} {e : Engine} {xs : List ℕ} (R : Represents p e xs) {n c : ℕ} (a : p.count ≡ n) (b : e.setting.capacity ≡ c) (s : ℕ) where
  -- ---- the call

  out : n ≤ s → judged (checks p e (Record s)) ≡ refused 9
  unfolding checks judged or_next
  out h = rw (le-leb p.count s (omega arith))

  pub record_out : n ≤ s → Becomes p e (Record s) (Refused 9) xs
  record_out h = record { after = e; answers = refuse (out h); represents = R }

  module _ (h : s < n) where
    passes : judged (checks p e (Record s)) ≡ accepted
    unfolding checks judged or_next
    passes = rw (lt-leb p.count s (omega arith))

    pub record_says : Says n s (first_run xs n c s) xs (record_of e.queue.states s e.queue.held)
    record_says =
        let H = R.holds in
        rw (← a, ← b, ← H.stores.held) (says e.queue.states s R.cells (omega arith) (H.stores.states s (omega arith)) H.stores.stands)

    pub record_in : {v : State} → v ≡ record_of e.queue.states s e.queue.held → Becomes p e (Record s) (Recorded v) xs
    record_in {v} q = record { after = e; answers = rw q (recorded passes); represents = R }

-- ---- as the call reads it

module _ {xs : List ℕ} {n c : ℕ} (k : n ≡ at_most 256 (load_at 8 0 xs)) (m : c ≡ at_most 4096 (load_at 8 8 xs)) (s : ℕ) where
  pub other_station : n ≤ s → Answered (Record s) (Refused 9) xs xs
  other_station h = record {
    refusal = λ i q. refl;
    answer = λ p e R. let w = fits_read R k m in record_out R w.0 w.1 s h;
  }

  module _ (h : s < n) {x : ℕ} (e : x ≡ first_run xs n c s) {v : State} where
    pub none_run : x ≡ 0 → v ≡ state_at (station_row n s + 32) xs → Answered (Record s) (Recorded v) xs xs
    none_run q g = record {
      refusal = λ i q. refl;
      answer = λ p d R. let w = fits_read R k m in record_in R w.0 w.1 s h (g ∙ (record_says R w.0 w.1 s h).current (sym e ∙ q));
    }

    pub first_run_lem : x ≢ 0 → v ≡ state_at (slot_row n (slot_of n x) + 24) xs → Answered (Record s) (Recorded v) xs xs
    first_run_lem q g = record {
      refusal = λ i q. refl;
      answer = λ p d R.
          let w = fits_read R k m in
          let S : Says n s x xs (record_of d.queue.states s d.queue.held) = rw e (record_says R w.0 w.1 s h) in
          record_in R w.0 w.1 s h (g ∙ S.saved q);
    }
