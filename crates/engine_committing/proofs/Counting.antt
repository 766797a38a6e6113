-- The walk along the log counts the front cells: it passes each of them, and stops after the last.
use mathlib.Core.Path.{◌≡◌, refl, sym, ap, ◌∙◌, subst}
use mathlib.Core.Logic.{◌≢◌}
use mathlib.Core.Bool.{Bool, true, false, cond}
use mathlib.Core.List.{List, [], ◌∷◌, ◌++◌, append_assoc, append-nil}
use Prim.Native.Nat.{ℕ, ◌+◌, ◌≤◌, ◌<◌}
use native.Mathlib.Omega.{arith}
use lib.ListN.{length, length-append}
use Rattle.words.specs.Le.{load_at}
use Rattle.line.specs.declared.Event.{Event}
use Rattle.line.specs.Station.{Plan}
use Rattle.rules.specs.Held.{event, Queue, logged}
use Rattle.rules.specs.Engine.{Setting}
use Rattle.rings.specs.Table.{next_of}
use Rattle.rings.specs.Ring.{head_of}
use Rattle.rings.proofs.Places.{first_of, next_of_lem}
use Rattle.engine_rows.specs.Layout.{slot_row}
use Rattle.entry.proofs.EntryLaws.{event_time}
use Rattle.engine_index.specs.Layout.{slot_of, log_at, IsSlot}
use Rattle.engine_index.specs.Represents.{Cell, HeldAt, Stored, Stands, has_run, nodes_by}
use Rattle.engine_index.proofs.Places.Layout.{one}
use Rattle.engine_index.proofs.Slots.SlotBytes.{held_event}
use Rattle.engine_index.proofs.Rings.Contents.{by_in}
use Rattle.engine_index.proofs.Changes.Mark.{node_of}
use Rattle.engine_events.specs.Represents.{Holds}
use Rattle.engine_moves.proofs.Cells.Split.{middle_in}
use Rattle.engine_committing.specs.Steps.{events_of, AllRun, Counts}
use Rattle.engine_promises.proofs.FoundSlots.{cell_slot}
use Rattle.engine_committing.proofs.LogFront.{AllEarly, AllLate, parted, logged_front, run_at, early_at, length_events}

-- ---- the time in a node's slot

abbrev pub time_at : ℕ → List ℕ → ℕ → ℕ
time_at n xs x = load_at 8 (slot_row n (slot_of n x)) xs

pub read_time : (n x : ℕ) (xs : List ℕ) {i r : ℕ} → i ≡ slot_of n x → r ≡ load_at 8 (slot_row n i) xs → r ≡ time_at n xs x
read_time n x xs e h = rw e at h

slot_time : (n : ℕ) (xs : List ℕ) (y : Cell) → HeldAt n xs y.node y.held → time_at n xs y.node ≡ (event y.held).time
slot_time n xs y h =
    event_time (slot_row n (slot_of n y.node)) xs ∙ ap (λ (e : Event). e.time) (held_event n xs y.node y.held h)

-- the first run one of late cells is late
first_late : (n : ℕ) (xs : List ℕ) (time : ℕ) (cells : List Cell) → Stored n xs cells → AllLate time cells → head_of (nodes_by has_run cells) 0 ≢ 0
    → time ≤ time_at n xs (head_of (nodes_by has_run cells) 0)
first_late n xs time [] s l d = absurd (d refl)
first_late n xs time (y ∷ ys) s l d = go (has_run y.held) d (λ k. first_late n xs time ys s.3 l.1 k)
  where
    go : (v : Bool) → head_of (cond v (y.node ∷ nodes_by has_run ys) (nodes_by has_run ys)) 0 ≢ 0
        → (head_of (nodes_by has_run ys) 0 ≢ 0 → time ≤ time_at n xs (head_of (nodes_by has_run ys) 0))
        → time ≤ time_at n xs (head_of (cond v (y.node ∷ nodes_by has_run ys) (nodes_by has_run ys)) 0)
    go true k ih = omega (arith, slot_time n xs y s.0, l.0)
    go false k ih = ih k

stored_back : (n : ℕ) (xs : List ℕ) (A B : List Cell) → Stored n xs (A ++ B) → Stored n xs B
stored_back n xs [] B s = s
stored_back n xs (y ∷ A) B s = stored_back n xs A B s.3

-- ---- the walk

-- so many front cells are passed, and x is the node of the first run one after them
pub record Counted (front back : List Cell) (count x : ℕ) : Type 0 where
  pub past : List Cell
  pub left : List Cell
  pub is : front ≡ past ++ left
  pub size : count ≡ length past
  pub node : x ≡ head_of (nodes_by has_run (left ++ back)) 0

abbrev pub Counting : ℕ → ℕ → List ℕ → ℕ → ℕ → ℕ → Type 0
Counting n c xs time count x =
    (p : Plan) (setting : Setting) (now : ℕ) (q : Queue) (front back : List Cell) → Holds p setting n c now xs q (front ++ back) → AllRun front
    → AllEarly time front
    → AllLate time back → Counted front back count x

module _ (n c : ℕ) (xs : List ℕ) (time : ℕ) where
  pub counting_start : {x : ℕ} → (n ≤ 256 → c ≤ 4096 → x ≡ next_of xs (log_at n c) 0) → Counting n c xs time 0 x
  counting_start f p setting now q front back H r e l =
      let S = H.stores.stands in
      record { past = []; left = front; is = refl; size = refl; node = f S.stations S.capacity ∙ first_of (S.log.ring 0 one) }

  -- ---- at a cell that is left

  module _ (past : List Cell) (y : Cell) (left back : List Cell) (free : List ℕ) (S : Stands n c xs ((past ++ y ∷ left) ++ back) free)
      (r : AllRun (past ++ y ∷ left)) where
    at : Stands n c xs (past ++ y ∷ (left ++ back)) free
    at = rw append_assoc at S

    here : head_of (nodes_by has_run (y ∷ left ++ back)) 0 ≡ y.node
    here = rw (run_at past y left r)

    here_slot : IsSlot n c (length xs) y.node
    here_slot = cell_slot at y (middle_in past y (left ++ back))

    here_early : AllEarly time (past ++ y ∷ left) → time_at n xs y.node < time
    here_early e = omega (arith, slot_time n xs y (node_of past y (left ++ back) at).0, early_at time past y left e)

    then : next_of xs (log_at n c) y.node ≡ head_of (nodes_by has_run (left ++ back)) 0
    then =
        next_of_lem (nodes_by has_run past) y.node (nodes_by has_run (left ++ back))
        (rw (by_in has_run past y (left ++ back) (run_at past y left r)) at (at.log.ring 0 one))

  module _ {count x : ℕ} (C : Counting n c xs time count x) where
    -- ---- it goes on

    pub counting_on : {z : ℕ} → x ≢ 0 → time_at n xs x < time → (n ≤ 256 → c ≤ 4096 → z ≡ next_of xs (log_at n c) x)
        → Counting n c xs time (count + 1) z
    counting_on {z} d w f p setting now q front back H r e l =
        let k = C p setting now q front back H r e l in
        go k.past k.left k.is k.size k.node
      where
        go : (past left : List Cell) → front ≡ past ++ left → count ≡ length past → x ≡ head_of (nodes_by has_run (left ++ back)) 0
            → Counted front back (count + 1) z
        go past [] i s k =
            absurd
            (omega (arith, w, rw (← k) at (first_late n xs time back (stored_back n xs front back H.stores.stands.stored) l (rw (← k) d))))
        go past (y ∷ left) i s k =
            let S : Stands n c xs ((past ++ y ∷ left) ++ back) H.stores.free = rw i at H.stores.stands in
            let v : AllRun (past ++ y ∷ left) = rw i at r in
            let u : x ≡ y.node = k ∙ here past y left back H.stores.free S v in
            record {
              past = past ++ y ∷ [];
              left = left;
              is = i ∙ sym (append_assoc past (y ∷ []) left);
              size = omega (arith, length-append past (y ∷ []));
              node = f S.stations S.capacity ∙ ap (next_of xs (log_at n c)) u ∙ then past y left back H.stores.free S v;
            }

    -- ---- it stops: no front cell is left

    module _ (stops : IsSlot n c (length xs) x → time_at n xs x < time → count < c → ⊥) where
      all_passed : (p : Plan) (setting : Setting) (now : ℕ) (q : Queue) (front back : List Cell) → Holds p setting n c now xs q (front ++ back)
          → AllRun front → AllEarly time front
          → AllLate time back → count ≡ length front
      all_passed p setting now q front back H r e l =
          let k = C p setting now q front back H r e l in
          go k.past k.left k.is k.size k.node
        where
          go : (past left : List Cell) → front ≡ past ++ left → count ≡ length past → x ≡ head_of (nodes_by has_run (left ++ back)) 0
              → count ≡ length front
          go past [] i s k = s ∙ sym (ap length (i ∙ append-nil past))
          go past (y ∷ left) i s k =
              let S : Stands n c xs ((past ++ y ∷ left) ++ back) H.stores.free = rw i at H.stores.stands in
              let v : AllRun (past ++ y ∷ left) = rw i at r in
              let u : x ≡ y.node = k ∙ here past y left back H.stores.free S v in
              let w = here_early past y left back H.stores.free S v (rw i at e) in
              absurd
              (stops (rw u (here_slot past y left back H.stores.free S v)) (rw u w)
              (omega (arith, ap length i, length-append past (y ∷ left), length-append front back, H.stores.places)))

      pub counting_ends : Counts n c xs time count
      counting_ends p setting now q cells H u =
          let P = parted time cells H.stores.stands.sorted (rw H.stores.held u) in
          let K : Holds p setting n c now xs q (P.front ++ P.back) = subst (Holds p setting n c now xs q) P.is H in
          let g : logged time q.held ≡ events_of P.front =
          ap (logged time) (sym K.stores.held) ∙ logged_front time P.front P.back P.early P.late in
          all_passed p setting now q P.front P.back K P.run P.early P.late ∙ sym (ap length g ∙ length_events P.front)
