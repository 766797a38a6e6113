-- What the links of a sentinel lead to: the first and the last cell of its ring, the first free node, the first of the log; the sentinel where there is none.
use mathlib.Core.Path.{◌≡◌, refl, ◌∙◌}
use mathlib.Core.Bool.{false}
use mathlib.Core.List.{List, [], ◌∷◌, ◌++◌}
use Prim.Native.Nat.{ℕ, ◌+◌, ◌*◌, ◌<◌}
use Rattle.line.specs.declared.Event.{Event}
use Rattle.line.specs.declared.State.{State}
use Rattle.rules.specs.Held.{unrun, ran}
use Rattle.rings.specs.Table.{next_of, prev_of}
use Rattle.rings.specs.Ring.{RingIn}
use Rattle.rings.proofs.Places.{first_of, last_of_lem}
use Rattle.rings.proofs.Mirror.{last_snoc}
use Rattle.engine_index.specs.Layout.{links_at, log_at, nodes_of}
use Rattle.engine_index.specs.Represents.{Cell, cell, ring_of, has_run, nodes_by, Stands, NoneIn}
use Rattle.engine_index.proofs.Places.Layout.{one}
use Rattle.engine_index.proofs.Rings.Contents.{by_in, nodes_in, nodes_none}
use Rattle.engine_index.proofs.Rings.NodeMoves.{ring_of_lem, ring_at}
use Rattle.engine_index.proofs.Slots.OtherSlots.{ring_below}
use Rattle.engine_index.proofs.Changes.Mark.{node_of}

-- ---- the stations' rings

module _ {n c : ℕ} {xs : List ℕ} (A : List Cell) (y : Cell) (B : List Cell) {free : List ℕ} (S : Stands n c xs (A ++ y ∷ B) free) where
  ring : RingIn xs (links_at n c) (nodes_of n c) (ring_of n y.held) (nodes_in n (ring_of n y.held) A ++ y.node ∷ nodes_in n (ring_of n y.held) B)
  ring = ring_at n A y B free (ring_below n y.held (node_of A y B S).2) S.rings

  pub first_in : NoneIn n (ring_of n y.held) A → next_of xs (links_at n c) (ring_of n y.held) ≡ y.node
  first_in z = first_of ring ∙ rw (nodes_none n (ring_of n y.held) A z)

  pub last_in : NoneIn n (ring_of n y.held) B → prev_of xs (links_at n c) (ring_of n y.held) ≡ y.node
  last_in z = last_of_lem ring ∙ rw (nodes_none n (ring_of n y.held) B z) (last_snoc (ring_of n y.held) (nodes_in n (ring_of n y.held) A) y.node)

module _ {n c : ℕ} {xs : List ℕ} {cells : List Cell} {free : List ℕ} (S : Stands n c xs cells free) (u : ℕ) (l : u < 2 * n) (z : NoneIn n u cells) where
  empty : RingIn xs (links_at n c) (nodes_of n c) u []
  empty = rw (nodes_none n u cells z) at (ring_of_lem n cells free u l S.rings)

  pub next_none : next_of xs (links_at n c) u ≡ u
  next_none = first_of empty

  pub prev_none : prev_of xs (links_at n c) u ≡ u
  prev_none = last_of_lem empty

-- a station's first unrun event, its first run one, its last run one
module _ {n c : ℕ} {xs : List ℕ} (A B : List Cell) (x : ℕ) (e : Event) {free : List ℕ} where
  pub first_unrun : Stands n c xs (A ++ cell x (unrun e) ∷ B) free → NoneIn n e.target A → next_of xs (links_at n c) e.target ≡ x
  first_unrun S z = first_in A (cell x (unrun e)) B S z

-- ---- the log

-- no cell is run
abbrev pub NoneRun : List Cell → Type 0
NoneRun [] = Unit {0}
NoneRun (y ∷ ys) = (has_run y.held ≡ false) × NoneRun ys

none_run : (A : List Cell) → NoneRun A → nodes_by has_run A ≡ []
none_run [] z = refl
none_run (y ∷ A) z = rw z.0 (none_run A z.1)

pub log_none : {n c : ℕ} {xs : List ℕ} {cells : List Cell} {free : List ℕ} → Stands n c xs cells free → NoneRun cells → next_of xs (log_at n c) 0 ≡ 0
log_none {n} {c} {xs} {cells} S z =
    let R : RingIn xs (log_at n c) (nodes_of n c) 0 [] = rw (none_run cells z) at (S.log.ring 0 one) in
    first_of R

pub first_logged : {n c : ℕ} {xs : List ℕ} (A B : List Cell) (x : ℕ) (e : Event) (b : State) {free : List ℕ}
    → Stands n c xs (A ++ cell x (ran e b) ∷ B) free → NoneRun A → next_of xs (log_at n c) 0 ≡ x
first_logged {n} {c} {xs} A B x e b S z =
    let R : RingIn xs (log_at n c) (nodes_of n c) 0 (x ∷ nodes_by has_run B) = rw (by_in has_run A (cell x (ran e b)) B refl, none_run A z) at (S.log.ring 0 one) in
    first_of R
