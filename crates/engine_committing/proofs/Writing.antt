-- The log's first events, written one by one: each is the first of all that are held, and its 24 bytes come after those of the events before it.
use mathlib.Core.Path.{◌≡◌, refl, sym, ap, ◌∙◌, subst}
use mathlib.Core.Bool.{true, true≢false}
use mathlib.Core.List.{List, [], ◌∷◌, ◌++◌, append_assoc, append-nil}
use Prim.Native.Nat.{ℕ, ◌+◌, ◌*◌, ◌≤◌, ◌<◌}
use native.Mathlib.Omega.{arith}
use lib.ListN.{length, drop, length-append, length-drop}
use lib.Seq.{drop-append-add, drop-drop}
use Rattle.line.specs.declared.Event.{Event}
use Rattle.line.specs.Station.{Plan, InRange}
use Rattle.rules.specs.Held.{Held, unrun, ran, event, Queue}
use Rattle.rules.specs.Engine.{Setting}
use Rattle.entry.specs.Entry.{entry, entries, event_at, put_event}
use Rattle.entry.proofs.Entries.{entries_length, entries_append, entries_first}
use Rattle.rings.specs.Table.{next_of}
use Rattle.engine_rows.specs.Layout.{slot_row}
use Rattle.entry.proofs.EntryLaws.{event_parts}
use Rattle.engine_index.specs.Layout.{slot_of, log_at, IsSlot}
use Rattle.engine_index.specs.Represents.{Cell, cell, has_run, Stands}
use Rattle.engine_index.proofs.Rings.RingEnds.{first_logged}
use Rattle.engine_events.specs.Represents.{held_of, Holds}
use Rattle.engine_moves.specs.Promises.{ReleasesEvent}
use Rattle.engine_moves.proofs.Cells.Split.{middle_in}
use Rattle.engine_committing.specs.Steps.{events_of, AllRun, Writes}
use Rattle.engine_promises.proofs.FoundSlots.{cell_slot}
use Rattle.engine_committing.proofs.LogFront.{run_at, length_events}

-- ---- the output

events_append : (A B : List Cell) → events_of (A ++ B) ≡ events_of A ++ events_of B
events_append [] B = refl
events_append (y ∷ A) B = ap (λ (l : List Event). event y.held ∷ l) (events_append A B)

one_entry : (x : Event) → entries (x ∷ []) ≡ entry x
unfolding entries
one_entry x = append-nil (entry x)

-- the entries of a log, and the output after them
abbrev pub written : List Event → List ℕ → List ℕ
written log output = entries log ++ drop (24 * length log) output

-- one more
write_next : (log : List Event) (x : Event) (output : List ℕ) → 24 * length log + 24 ≤ length output
    → put_event (24 * length log) x (written log output) ≡ written (log ++ x ∷ []) output
write_next log x output h =
    event_parts at x (written log output) (omega (arith, length-append (entries log) (drop at output), entries_length log, length-drop at output))
    ∙ rw (entries_first log (drop at output), beyond) (sym after)
  where
    at : ℕ
    at = 24 * length log

    beyond : drop (at + 24) (written log output) ≡ drop (at + 24) output
    beyond =
        ap (λ (m : ℕ). drop (m + 24) (written log output)) (sym (entries_length log)) ∙ drop-append-add (entries log) (drop at output) 24
        ∙ drop-drop 24 at output

    size : 24 * length (log ++ x ∷ []) ≡ at + 24
    size = omega (arith, length-append log (x ∷ []))

    after : written (log ++ x ∷ []) output ≡ entries log ++ (entry x ++ drop (at + 24) output)
    after = rw (entries_append log (x ∷ []), one_entry x, append_assoc, size)

-- ---- the queue

queue_of : {p : Plan} {setting : Setting} {n c now : ℕ} {xs : List ℕ} {q : Queue} {cells : List Cell} → Holds p setting n c now xs q cells
    → Holds p setting n c now xs (record { states = q.states; held = held_of cells }) cells
queue_of {p} {setting} {n} {c} {now} {xs} {q} {cells} H =
    subst (λ (h : List Held). Holds p setting n c now xs (record { states = q.states; held = h }) cells) (sym H.stores.held) H

-- ---- the loop

-- so many events are written and have left
pub record Written (p : Plan) (setting : Setting) (n c now : ℕ) (q : Queue) (front back : List Cell) (output : List ℕ) (k : ℕ)
    (ys left : List ℕ) : Type 0 where
  pub past : List Cell
  pub rest : List Cell
  pub is : front ≡ past ++ rest
  pub size : length past ≡ k
  pub holds : Holds p setting n c now ys (record { states = q.states; held = held_of (rest ++ back) }) (rest ++ back)
  pub output_is : left ≡ written (events_of past) output

abbrev pub Writing : ℕ → ℕ → List ℕ → ℕ → List ℕ → ℕ → List ℕ → List ℕ → Type 0
Writing n c xs count output k ys left =
    (p : Plan) (setting : Setting) (now : ℕ) (q : Queue) (front back : List Cell) → InRange p → Holds p setting n c now xs q (front ++ back)
    → AllRun front → length front ≡ count
    → 24 * count ≤ length output
    → Written p setting n c now q front back output k ys left

module _ (n c : ℕ) (xs : List ℕ) (count : ℕ) (output : List ℕ) where
  pub writing_start : Writing n c xs count output 0 xs output
  unfolding entries
  writing_start p setting now q front back I H r l w = record { past = []; rest = front; is = refl; size = refl; holds = queue_of H; output_is = refl }

  -- the log's first is the first cell, a run one
  first_is : (z : ℕ) (h : Held) (cells : List Cell) (ys : List ℕ) (x : ℕ) {free : List ℕ} → has_run h ≡ true → Stands n c ys (cell z h ∷ cells) free
      → (n ≤ 256 → c ≤ 4096 → x ≡ next_of ys (log_at n c) 0) → x ≡ z
  first_is z (unrun v) cells ys x t S f = absurd (true≢false (sym t))
  first_is z (ran v b) cells ys x t S f = f S.stations S.capacity ∙ first_logged [] cells z v b S tt

  -- ---- one more

  -- the first cell's event is read, and the others are left
  step : (p : Plan) (setting : Setting) (now : ℕ) (q : Queue) (z : ℕ) (h : Held) (cells : List Cell) (ys zs : List ℕ) (x : ℕ) (e : Event)
      → has_run h ≡ true → InRange p
      → Holds p setting n c now ys (record { states = q.states; held = h ∷ held_of cells }) (cell z h ∷ cells)
      → (n ≤ 256 → c ≤ 4096 → x ≡ next_of ys (log_at n c) 0) → e ≡ event_at (slot_row n (slot_of n x)) ys → ReleasesEvent n c ys x zs
      → (e ≡ event h) × Holds p setting n c now zs (record { states = q.states; held = held_of cells }) cells
  step p setting now q z (unrun v) cells ys zs x e t I H f g R = absurd (true≢false (sym t))
  step p setting now q z (ran v b) cells ys zs x e t I H f g R =
      let S = H.stores.stands in
      let k : x ≡ z = first_is z (ran v b) cells ys x t S f in (
        g ∙ ap (λ (i : ℕ). event_at (slot_row n (slot_of n i)) ys) k ∙ S.stored.0.0,
        R p setting now (record { states = q.states; held = ran v b ∷ held_of cells }) cells v b I (rw k H),
      )

  module _ {k : ℕ} {ys left : List ℕ} (W : Writing n c xs count output k ys left) where
    pub writing_on : {x : ℕ} {e : Event} {zs left' : List ℕ} → k < count → (n ≤ 256 → c ≤ 4096 → x ≡ next_of ys (log_at n c) 0)
        → e ≡ event_at (slot_row n (slot_of n x)) ys → left' ≡ put_event (24 * k) e left → ReleasesEvent n c ys x zs
        → Writing n c xs count output (k + 1) zs left'
    writing_on {x} {e} {zs} {left'} h f g o R p setting now q front back I H r l w =
        let d = W p setting now q front back I H r l w in
        go d.past d.rest d.is d.size d.holds d.output_is
      where
        go : (past rest : List Cell) → front ≡ past ++ rest → length past ≡ k
            → Holds p setting n c now ys (record { states = q.states; held = held_of (rest ++ back) }) (rest ++ back)
            → left ≡ written (events_of past) output
            → Written p setting n c now q front back output (k + 1) zs left'
        go past [] i s K v = absurd (omega (arith, ap length (i ∙ append-nil past)))
        go past (y ∷ rest) i s K v =
            let d = step p setting now q y.node y.held (rest ++ back) ys zs x e (run_at past y rest (rw i at r)) I K f g R in
            let m : length (events_of past) ≡ k = length_events past ∙ s in
            let a : left' ≡ put_event (24 * length (events_of past)) e (written (events_of past) output) =
            o ∙ ap (put_event (24 * k) e) v ∙ ap (λ (i : ℕ). put_event (24 * i) e (written (events_of past) output)) (sym m) in
            let b = write_next (events_of past) e output (omega (arith, m)) in
            let u : events_of past ++ e ∷ [] ≡ events_of (past ++ y ∷ []) = rw d.0 (sym (events_append past (y ∷ []))) in
            record {
              past = past ++ y ∷ [];
              rest = rest;
              is = i ∙ sym (append_assoc past (y ∷ []) rest);
              size = omega (arith, length-append past (y ∷ []));
              holds = d.1;
              output_is = a ∙ b ∙ ap (λ (l : List Event). written l output) u;
            }

    -- ---- the first has a slot, so the search finds it

    pub writing_stops : {x : ℕ} → k < count → (n ≤ 256 → c ≤ 4096 → x ≡ next_of ys (log_at n c) 0) → (IsSlot n c (length ys) x → ⊥)
        → Writes n c xs count output ys left
    writing_stops {x} h f none p setting now q front back I H r l w =
        let d = W p setting now q front back I H r l w in
        absurd (go d.past d.rest d.is d.size d.holds.stores.stands)
      where
        go : (past rest : List Cell) {free : List ℕ} → front ≡ past ++ rest → length past ≡ k → Stands n c ys (rest ++ back) free → ⊥
        go past [] i s S = omega (arith, ap length (i ∙ append-nil past))
        go past (y ∷ rest) i s S =
            let u : x ≡ y.node = first_is y.node y.held (rest ++ back) ys x (run_at past y rest (rw i at r)) S f in
            none (rw u (cell_slot S y (middle_in [] y (rest ++ back))))

    -- ---- all

    pub writing_ends : k ≡ count → Writes n c xs count output ys left
    writing_ends h p setting now q front back I H r l w =
        let d = W p setting now q front back I H r l w in
        go d.past d.rest d.is d.size d.holds d.output_is
      where
        go : (past rest : List Cell) → front ≡ past ++ rest → length past ≡ k
            → Holds p setting n c now ys (record { states = q.states; held = held_of (rest ++ back) }) (rest ++ back)
            → left ≡ written (events_of past) output
            → Holds p setting n c now ys (record { states = q.states; held = held_of back }) back × (left ≡ entries (events_of front) ++ drop (24 * count) output)
        go past (y ∷ rest) i s K v = absurd (omega (arith, ap length i, length-append past (y ∷ rest)))
        go past [] i s K v =
            let m : length (events_of past) ≡ count = length_events past ∙ s ∙ h in
            let j : past ≡ front = sym (i ∙ append-nil past) in (
              K,
              v ∙ ap (λ (i : ℕ). entries (events_of past) ++ drop (24 * i) output) m
                  ∙ ap (λ (f : List Cell). entries (events_of f) ++ drop (24 * count) output) j,
            )
