-- The cells are in the event order: what a cell that joins, leaves or changes its status needs of the others, and what it leaves.
use mathlib.Core.Path.{◌≡◌}
use mathlib.Core.Bool.{true}
use mathlib.Core.List.{List, [], ◌∷◌, ◌++◌}
use Rattle.line.specs.declared.Event.{Event}
use Rattle.line.specs.Event.{before}
use Rattle.rules.specs.Held.{event}
use Rattle.engine_index.specs.Represents.{Cell, AllBefore, AllAfter, Sorted}

-- ---- what lies before a cell, and after it

after_at : (e : Event) (A : List Cell) (y : Cell) (B : List Cell) → AllAfter e (A ++ y ∷ B) → before e (event y.held) ≡ true
after_at e [] y B a = a.0
after_at e (x ∷ A) y B a = after_at e A y B a.1

pub sorted_before : (A : List Cell) (y : Cell) (B : List Cell) → Sorted (A ++ y ∷ B) → AllBefore A (event y.held)
sorted_before [] y B s = tt
sorted_before (x ∷ A) y B s = (after_at (event x.held) A y B s.0, sorted_before A y B s.1)

pub sorted_after : (A : List Cell) (y : Cell) (B : List Cell) → Sorted (A ++ y ∷ B) → AllAfter (event y.held) B
sorted_after [] y B s = s.0
sorted_after (x ∷ A) y B s = sorted_after A y B s.1

-- ---- a cell joins

after_insert : (e : Event) (A : List Cell) (y : Cell) (B : List Cell) → AllAfter e (A ++ B) → before e (event y.held) ≡ true
    → AllAfter e (A ++ y ∷ B)
after_insert e [] y B a l = (l, a)
after_insert e (x ∷ A) y B a l = (a.0, after_insert e A y B a.1 l)

pub sorted_insert : (A : List Cell) (y : Cell) (B : List Cell) → Sorted (A ++ B) → AllBefore A (event y.held) → AllAfter (event y.held) B
    → Sorted (A ++ y ∷ B)
sorted_insert [] y B s b a = (a, s)
sorted_insert (x ∷ A) y B s b a = (after_insert (event x.held) A y B s.0 b.0, sorted_insert A y B s.1 b.1 a)

-- ---- a cell leaves

after_drop : (e : Event) (A : List Cell) (y : Cell) (B : List Cell) → AllAfter e (A ++ y ∷ B) → AllAfter e (A ++ B)
after_drop e [] y B a = a.1
after_drop e (x ∷ A) y B a = (a.0, after_drop e A y B a.1)

pub sorted_drop : (A : List Cell) (y : Cell) (B : List Cell) → Sorted (A ++ y ∷ B) → Sorted (A ++ B)
sorted_drop [] y B s = s.1
sorted_drop (x ∷ A) y B s = (after_drop (event x.held) A y B s.0, sorted_drop A y B s.1)

-- ---- a cell takes the place of one of the same event

pub sorted_swap : (A : List Cell) (y z : Cell) (B : List Cell) → event z.held ≡ event y.held → Sorted (A ++ y ∷ B) → Sorted (A ++ z ∷ B)
sorted_swap A y z B e s =
    sorted_insert A z B (sorted_drop A y B s) (rw e (sorted_before A y B s)) (rw e (sorted_after A y B s))
