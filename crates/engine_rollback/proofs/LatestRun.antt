-- The last run node of a station is that of its latest run event; 0 where none is run.
use mathlib.Core.Path.{◌≡◌, refl, sym, ap, ◌∙◌, subst}
use mathlib.Core.Logic.{◌≢◌}
use mathlib.Core.Bool.{false}
use mathlib.Core.List.Memᴰ
use mathlib.Core.List.{List, [], ◌∷◌, ◌++◌}
use Prim.Native.Nat.{ℕ, ◌+◌, ◌*◌, ◌<◌}
use native.Mathlib.Omega.{arith}
use Rattle.line.specs.declared.Event.{Event}
use Rattle.line.specs.declared.State.{State}
use Rattle.line.specs.Event.{before}
use Rattle.line.specs.Order.{Lt}
use Rattle.line.proofs.Order.{asym, irr}
use Rattle.rules.specs.Held.{Held, unrun, ran, event, In}
use Rattle.rules.specs.Undo.{NoneLater}
use Rattle.rules.specs.Replay.{NoRun}
use Rattle.rules.proofs.Replay.Neat.{in_run}
use Rattle.engine_rows.specs.Layout.{slot_row}
use Rattle.entry.specs.Entry.{event_at}
use Rattle.engine_index.specs.Layout.{run_ring, slot_of}
use Rattle.engine_index.specs.Represents.{Cell, cell, ring_of, HeldAt, Stored, AllAfter, Sorted, Stands, NoneIn}
use Rattle.engine_index.proofs.Rings.RingSearches.{Last, last_none, last_some, last}
use Rattle.engine_ends.specs.Ends.{last_run}
use Rattle.engine_ends.proofs.Ends.{last_run_none, last_run_is}
use Rattle.engine_events.specs.Represents.{Has, held_of}

-- ---- what stands at a cell's node

-- a node, its event in the slot, and the event's target
pub record Placed (n : ℕ) (xs : List ℕ) (y : Cell) : Type 0 where
  pub held : HeldAt n xs y.node y.held
  pub beyond : 2 * n < y.node
  pub inside : (event y.held).target < n

pub placed : {n : ℕ} {xs : List ℕ} {y : Cell} {cells : List Cell} → Stored n xs cells → Has y cells → Placed n xs y
placed {n} {xs} s (Memᴰ.head e) = subst (λ (z : Cell). Placed n xs z) (sym e) (record { held = s.0; beyond = s.1; inside = s.2 })
placed s (Memᴰ.tail m) = placed s.3 m

pub event_of : (n : ℕ) (xs : List ℕ) (x : ℕ) (h : Held) → HeldAt n xs x h → event_at (slot_row n (slot_of n x)) xs ≡ event h
event_of n xs x (unrun e) a = a.0
event_of n xs x (ran e b) a = a.0

-- ---- the end of the ring

-- no cell of the list is in the ring of run events, so no event of s is run
none_in : (n s : ℕ) (e : Event) (b : State) (cells : List Cell) → NoneIn n (run_ring n s) cells → In (ran e b) (held_of cells) → e.target ≢ s
none_in n s e b [] z m t = elim m [ ]
none_in n s e b (y ∷ ys) z (Memᴰ.head q) t = z.0 (subst (λ h. ring_of n h ≡ run_ring n s) q (ap (run_ring n) t))
none_in n s e b (y ∷ ys) z (Memᴰ.tail m) t = none_in n s e b ys z.1 m t

-- a run event of s stands at y or in front of it
in_front : (n s : ℕ) (A : List Cell) (y : Cell) (B : List Cell) → Sorted (A ++ y ∷ B) → NoneIn n (run_ring n s) B → (z : Event) (a : State)
    → In (ran z a) (held_of (A ++ y ∷ B)) → z.target ≡ s → before (event y.held) z ≡ false
in_front n s [] y B o k z a (Memᴰ.head q) t = subst (λ h. before (event h) z ≡ false) q (irr z).is
in_front n s [] y B o k z a (Memᴰ.tail m) t = absurd (none_in n s z a B k m t)
in_front n s (w ∷ A) y B o k z a (Memᴰ.head q) t =
    (asym (subst (λ h. Lt (event h) (event y.held)) (sym q) (reaches A o.0))).is
  where
    reaches : (A : List Cell) → AllAfter (event w.held) (A ++ y ∷ B) → Lt (event w.held) (event y.held)
    reaches [] r = record { is = r.0 }
    reaches (v ∷ A) r = reaches A r.1
in_front n s (w ∷ A) y B o k z a (Memᴰ.tail m) t = in_front n s A y B o.1 k z a m t

-- x is the last run node of station s
pub data Top (n s x : ℕ) (cells : List Cell) : Type 0 where
  empty : x ≡ 0 → NoRun s (held_of cells) → Top n s x cells
  latest : (e : Event) (b : State) → Has (cell x (ran e b)) cells → e.target ≡ s → NoneLater e (held_of cells) → Top n s x cells

in_middle : (A : List Cell) (y : Cell) (B : List Cell) → Has y (A ++ y ∷ B)
in_middle [] y B = Memᴰ.head refl
in_middle (z ∷ A) y B = Memᴰ.tail (in_middle A y B)

pub top : {n c s : ℕ} {xs : List ℕ} {cells : List Cell} {free : List ℕ} → Stands n c xs cells free → s < n → Top n s (last_run xs n c s) cells
top {n} {c} {s} {xs} {cells} {free} S l = go (last n (run_ring n s) cells) S
  where
    found : (A : List Cell) (x : ℕ) (h : Held) (B : List Cell) → Stands n c xs (A ++ cell x h ∷ B) free → NoneIn n (run_ring n s) B → ring_of n h ≡ run_ring n s
        → (event h).target < n → Top n s x (A ++ cell x h ∷ B)
    found A x (unrun e) B T z q k = absurd (omega (arith, q, k))
    found A x (ran e b) B T z q k =
        let t : e.target ≡ s = omega (arith, q) in
        latest e b (in_middle A (cell x (ran e b)) B) t (λ w a m u. in_front n s A (cell x (ran e b)) B T.sorted z w a m (u ∙ t))

    go : {cells : List Cell} → Last n (run_ring n s) cells → Stands n c xs cells free → Top n s (last_run xs n c s) cells
    go (last_none {cells = cells} z) T =
        empty (last_run_none T s l z) (in_run (λ e b. e.target ≢ s) (held_of cells) (λ e b m. none_in n s e b cells z m))
    go (last_some A y B z q) T =
        subst (λ k. Top n s k (A ++ y ∷ B)) (sym (last_run_is A y B T s l q z))
        (found A y.node y.held B T z q (placed T.stored (in_middle A y B)).inside)
