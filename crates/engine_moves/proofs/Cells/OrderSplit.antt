-- Cells in the event order part at a new event: those before it, and those after it.
use mathlib.Core.Path.{◌≡◌, refl, ap}
use mathlib.Core.Bool.{Bool, true, false, true≢false, not, ◌&&◌}
use mathlib.Core.List.Memᴰ
use mathlib.Core.List.{List, [], ◌∷◌, ◌++◌}
use Rattle.line.specs.declared.Event.{Event}
use Rattle.line.specs.Event.{before}
use Rattle.line.specs.Order.{Lt}
use Rattle.line.proofs.Order.{tr}
use Rattle.rules.specs.Held.{event, same}
use Rattle.engine_index.specs.Represents.{Cell, AllBefore, AllAfter, Sorted}
use Rattle.engine_events.specs.Represents.{held_of}
use Rattle.engine_moves.specs.Promises.{New}

pub record Parts (e : Event) (cells : List Cell) : Type 0 where
  pub front : List Cell
  pub back : List Cell
  pub whole : cells ≡ front ++ back
  pub earlier : AllBefore front e
  pub later : AllAfter e back

-- an event that is another and not before e is after it
after_other : (a e : Event) → same a e ≡ false → before a e ≡ false → before e a ≡ true
unfolding same
after_other a e s b = go (before e a) (rw b at s)
  where
    go : (v : Bool) → (true && not v) ≡ false → v ≡ true
    go true z = refl
    go false z = absurd (true≢false z)

after_all : (e : Event) (y : Event) (cells : List Cell) → before e y ≡ true → AllAfter y cells → AllAfter e cells
after_all e y [] h a = tt
after_all e y (z ∷ cells) h a =
    let l : Lt e (event z.held) = tr {b = y} (record { is = h }) (record { is = a.0 }) in
    (l.is, after_all e y cells h a.1)

pub order_split : (e : Event) (cells : List Cell) → Sorted cells → New e (held_of cells) → Parts e cells
order_split e [] s w = record { front = []; back = []; whole = refl; earlier = tt; later = tt }
order_split e (y ∷ cells) s w =
    go (before (event y.held) e) refl (order_split e cells s.1 (λ z m. w z (Memᴰ.tail m)))
  where
    go : (v : Bool) → before (event y.held) e ≡ v → Parts e cells → Parts e (y ∷ cells)
    go true q r =
        record { front = y ∷ r.front; back = r.back; whole = ap (λ l. y ∷ l) r.whole; earlier = (q, r.earlier); later = r.later }
    go false q r =
        let h = after_other (event y.held) e (w y.held (Memᴰ.head refl)) q in
        record { front = []; back = y ∷ cells; whole = refl; earlier = tt; later = (h, after_all e (event y.held) cells h s.0) }
