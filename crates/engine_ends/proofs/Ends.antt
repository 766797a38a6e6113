-- What the ends are where the bytes stand for cells.
use mathlib.Core.Path.{◌≡◌, ◌∙◌, subst}
use mathlib.Core.List.{List, [], ◌∷◌, ◌++◌}
use Prim.Native.Nat.{ℕ, ◌<◌}
use native.Mathlib.Omega.{arith}
use borrow.Author.Tests.{le-leb, lt-ltb, eq-eqb, ne_eqb}
use Rattle.line.specs.declared.State.{State}
use Rattle.line.specs.declared.Event.{Event}
use Rattle.rules.specs.Held.{ran}
use Rattle.rings.specs.Table.{next_of, prev_of}
use Rattle.rings.specs.Ring.{RingIn}
use Rattle.rings.proofs.Places.{first_of}
use Rattle.engine_index.specs.Layout.{unrun_ring, run_ring, free_ring, links_at, log_at, nodes_of}
use Rattle.engine_index.specs.Represents.{Cell, cell, ring_of, Stands, NoneIn}
use Rattle.engine_index.proofs.Places.Range.{logged_in}
use Rattle.engine_index.proofs.Rings.Contents.{contents_free}
use Rattle.engine_index.proofs.Rings.RingEnds.{first_in, last_in, next_none, prev_none, NoneRun, log_none}
use Rattle.engine_index.proofs.Rings.RingEnds as rings
use Rattle.engine_index.proofs.Changes.Put as free
use Rattle.engine_index.proofs.Changes.Mark.{node_of}
use Rattle.engine_ends.specs.Ends.{first_unrun, first_run, last_run, first_free, first_logged}

-- ---- a station has none

module _ {n c : ℕ} {xs : List ℕ} {cells : List Cell} {free : List ℕ} (S : Stands n c xs cells free) (s : ℕ) (l : s < n) where
  pub first_unrun_none : NoneIn n (unrun_ring s) cells → first_unrun xs n c s ≡ 0
  unfolding first_unrun
  first_unrun_none z = rw (lt-ltb s n l, eq-eqb (next_of xs (links_at n c) s) s (next_none S s (omega arith) z))

  pub first_run_none : NoneIn n (run_ring n s) cells → first_run xs n c s ≡ 0
  unfolding first_run
  first_run_none z =
      rw (lt-ltb s n l, le-leb n 256 S.stations, eq-eqb (next_of xs (links_at n c) (run_ring n s)) (run_ring n s) (next_none S (run_ring n s) (omega arith) z))

  pub last_run_none : NoneIn n (run_ring n s) cells → last_run xs n c s ≡ 0
  unfolding last_run
  last_run_none z =
      rw (lt-ltb s n l, le-leb n 256 S.stations, eq-eqb (prev_of xs (links_at n c) (run_ring n s)) (run_ring n s) (prev_none S (run_ring n s) (omega arith) z))

-- ---- it has one: y, before or after which there is no other

module _ {n c : ℕ} {xs : List ℕ} (A : List Cell) (y : Cell) (B : List Cell) {free : List ℕ} (S : Stands n c xs (A ++ y ∷ B) free) (s : ℕ) (l : s < n) where
  above : free_ring n < y.node
  above = (node_of A y B S).1

  module _ (u : ℕ) (e : ring_of n y.held ≡ u) where
    next_is : NoneIn n u A → next_of xs (links_at n c) u ≡ y.node
    next_is z = subst (λ (w : ℕ). NoneIn n w A → next_of xs (links_at n c) w ≡ y.node) e (first_in A y B S) z

    prev_is : NoneIn n u B → prev_of xs (links_at n c) u ≡ y.node
    prev_is z = subst (λ (w : ℕ). NoneIn n w B → prev_of xs (links_at n c) w ≡ y.node) e (last_in A y B S) z

  pub first_unrun_is : ring_of n y.held ≡ unrun_ring s → NoneIn n (unrun_ring s) A → first_unrun xs n c s ≡ y.node
  unfolding first_unrun
  first_unrun_is e z = rw (lt-ltb s n l, next_is s e z, ne_eqb y.node s (λ q. omega (arith, above)))

  pub first_run_is : ring_of n y.held ≡ run_ring n s → NoneIn n (run_ring n s) A → first_run xs n c s ≡ y.node
  unfolding first_run
  first_run_is e z =
      rw (lt-ltb s n l, le-leb n 256 S.stations, next_is (run_ring n s) e z, ne_eqb y.node (run_ring n s) (λ q. omega (arith, above)))

  pub last_run_is : ring_of n y.held ≡ run_ring n s → NoneIn n (run_ring n s) B → last_run xs n c s ≡ y.node
  unfolding last_run
  last_run_is e z =
      rw (lt-ltb s n l, le-leb n 256 S.stations, prev_is (run_ring n s) e z, ne_eqb y.node (run_ring n s) (λ q. omega (arith, above)))

-- ---- the free slots

module _ {n c : ℕ} {xs : List ℕ} {cells : List Cell} where
  pub first_free_none : Stands n c xs cells [] → first_free xs n c ≡ 0
  unfolding first_free
  first_free_none S =
      let R : RingIn xs (links_at n c) (nodes_of n c) (free_ring n) [] = rw (contents_free n cells []) at (S.rings.ring (free_ring n) (omega arith)) in
      rw (le-leb n 256 S.stations, eq-eqb (next_of xs (links_at n c) (free_ring n)) (free_ring n) (first_of R))

  pub first_free_is : {x : ℕ} {fs : List ℕ} → Stands n c xs cells (x ∷ fs) → first_free xs n c ≡ x
  unfolding first_free
  first_free_is {x} S =
      let f = free.first_free_lem S in
      rw (le-leb n 256 S.stations, f.0, ne_eqb x (free_ring n) (λ q. omega (arith, f.1)))

-- ---- the log

in_range : {n c : ℕ} {xs : List ℕ} {cells : List Cell} {free : List ℕ} → Stands n c xs cells free → first_logged xs n c ≡ next_of xs (log_at n c) 0
in_range {n} {c} {xs} S = logged_in n c S.stations S.capacity xs 0

pub first_logged_none : {n c : ℕ} {xs : List ℕ} {cells : List Cell} {free : List ℕ} → Stands n c xs cells free → NoneRun cells → first_logged xs n c ≡ 0
first_logged_none S z = in_range S ∙ log_none S z

pub first_logged_is : {n c : ℕ} {xs : List ℕ} (A B : List Cell) (x : ℕ) (e : Event) (b : State) {free : List ℕ}
    → Stands n c xs (A ++ cell x (ran e b) ∷ B) free → NoneRun A → first_logged xs n c ≡ x
first_logged_is A B x e b S z = in_range S ∙ rings.first_logged A B x e b S z
