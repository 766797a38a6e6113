-- An event is held in one cell, and stays in its node through every change that makes cells from cells.
use mathlib.Core.Path.{◌≡◌, refl, sym, ap, ◌∙◌, subst}
use mathlib.Core.List.Memᴰ
use mathlib.Core.List.{List, [], ◌∷◌}
use Prim.Native.Nat.{ℕ, suc}
use lib.ListN.{length}
use Rattle.line.specs.declared.Event.{Event}
use Rattle.line.specs.Order.{Lt, Ge, All}
use Rattle.line.proofs.Order.{irr, clash}
use Rattle.rules.specs.Held.{Held, unrun, ran, event, In}
use Rattle.rules.proofs.Undo.Exist.{IsHeld, is_unrun, is_run}
use Rattle.engine_index.specs.Represents.{Cell, cell, AllAfter, Sorted}
use Rattle.engine_events.specs.Represents.{held_of, Has, From, Nodes, none, more}

-- ---- cells and held events

pub has_held : {y : Cell} {cells : List Cell} → Has y cells → In y.held (held_of cells)
has_held (Memᴰ.head e) = Memᴰ.head (ap (λ (z : Cell). z.held) e)
has_held (Memᴰ.tail m) = Memᴰ.tail (has_held m)

pub held_has : {h : Held} (cells : List Cell) → In h (held_of cells) → (x : ℕ) × Has (cell x h) cells
held_has [] m = elim m [ ]
held_has (y ∷ ys) (Memᴰ.head e) = (y.node, Memᴰ.head (ap (λ k. cell y.node k) e))
held_has (y ∷ ys) (Memᴰ.tail m) = let r = held_has ys m in (r.0, Memᴰ.tail r.1)

pub held_length : (cells : List Cell) → length (held_of cells) ≡ length cells
held_length [] = refl
held_length (y ∷ ys) = ap (λ n. suc n) (held_length ys)

-- ---- one cell an event

after_in : {e : Event} {y : Cell} {cells : List Cell} → Has y cells → AllAfter e cells → Lt e (event y.held)
after_in {e} (Memᴰ.head q) a = subst (λ (z : Cell). Lt e (event z.held)) (sym q) (record { is = a.0 })
after_in (Memᴰ.tail m) a = after_in m a.1

-- an event in front of cells is none of theirs
apart : {e : Event} {z : Cell} {cells : List Cell} → Has z cells → AllAfter e cells → e ≡ event z.held → ⊥
apart {e} {z} m a q = clash (after_in m a) (subst (λ f. Ge f (event z.held)) (sym q) (irr (event z.held)))

pub one_cell : {y z : Cell} {cells : List Cell} → Sorted cells → Has y cells → Has z cells → event y.held ≡ event z.held → y ≡ z
one_cell o (Memᴰ.head a) (Memᴰ.head b) q = a ∙ sym b
one_cell o (Memᴰ.head a) (Memᴰ.tail m) q = absurd (apart m o.0 (ap (λ (w : Cell). event w.held) (sym a) ∙ q))
one_cell o (Memᴰ.tail m) (Memᴰ.head b) q = absurd (apart m o.0 (ap (λ (w : Cell). event w.held) (sym b) ∙ sym q))
one_cell o (Memᴰ.tail m) (Memᴰ.tail k) q = one_cell o.1 m k q

-- ---- cells made from cells

pub from_same : (cells : List Cell) → From cells cells
from_same cells y m = (y.held, m, refl)

pub from_on : {a b c : List Cell} → From a b → From b c → From a c
from_on F G y m =
    let r = G y m in
    let s = F (cell y.node r.0) r.1 in
    (s.0, s.1, s.2 ∙ r.2)

-- one cell more on both sides
pub from_under : {y : Cell} {a b : List Cell} → From a b → From (y ∷ a) (y ∷ b)
from_under {y} F z (Memᴰ.head e) = (z.held, Memᴰ.head e, refl)
from_under {y} F z (Memᴰ.tail m) = let r = F z m in (r.0, Memᴰ.tail r.1, r.2)

-- a held event stands in the node that it had
pub same_node : {x : ℕ} {h k : Held} {cells after : List Cell} → Sorted cells → From cells after → Has (cell x h) cells → In k (held_of after)
    → event k ≡ event h → Has (cell x k) after
same_node {x} {h} {k} {cells} {after} o F m i q =
    let r = held_has after i in
    let s = F (cell r.0 k) r.1 in
    let e = one_cell o s.1 m (s.2 ∙ q) in
    subst (λ u. Has (cell u k) after) (ap (λ (z : Cell). z.node) e) r.1

-- so do the nodes of several
pub nodes_stay : {cells after : List Cell} {ks : List ℕ} {es : List Event} → Sorted cells → From cells after → All (λ y. IsHeld y (held_of after)) es
    → Nodes cells ks es → Nodes after ks es
nodes_stay o F a none = none
nodes_stay {cells} {after} o F a (more {x = x} {h = h} {ks = ks} {es = es} m N) = go a.0 (nodes_stay o F a.1 N)
  where
    put : (k : Held) → event k ≡ event h → In k (held_of after) → Nodes after ks es → Nodes after (x ∷ ks) (event h ∷ es)
    put k q i rest = subst (λ e. Nodes after (x ∷ ks) (e ∷ es)) q (more (same_node o F m i q) rest)

    go : IsHeld (event h) (held_of after) → Nodes after ks es → Nodes after (x ∷ ks) (event h ∷ es)
    go (is_unrun i) rest = put (unrun (event h)) refl i rest
    go (is_run b i) rest = put (ran (event h) b) refl i rest
