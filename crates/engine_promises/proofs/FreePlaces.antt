-- The first free node and the one after it say how many places are free, up to two.
use mathlib.Core.Path.{◌≡◌, refl, sym, ap, ◌∙◌}
use mathlib.Core.Logic.{◌≢◌}
use mathlib.Core.Bool.{Bool, true, false}
use mathlib.Core.List.{List, [], ◌∷◌}
use Prim.Native.Nat.{ℕ, ◌+◌, ◌%◌, ◌≤◌}
use native.Mathlib.Omega.{arith}
use borrow.Author.Tests.{eqb-true, eqb-false, le-leb, lt-leb, leb-true, leb-false}
use lib.Dec.{eqb, leb}
use lib.ListN.{length}
use Rattle.rings.specs.Table.{next_of}
use Rattle.rings.specs.Ring.{head_of, RingIn}
use Rattle.rings.proofs.Places.{next_of_lem}
use Rattle.engine_index.specs.Layout.{free_ring, links_at, nodes_of}
use Rattle.engine_index.specs.Represents.{Cell, Stands}
use Rattle.engine_index.proofs.Rings.Contents.{contents_free}
use Rattle.engine_ends.specs.Ends.{first_free}
use Rattle.engine_ends.proofs.Ends.{first_free_none, first_free_is}
use Rattle.engine_promises.specs.Steps.{Full, HasRoom}

-- r says of m what the f free places do
says_room : (a m f c r : ℕ) → a + f ≡ c → (m ≤ r → m ≤ f) → (m ≤ f → m ≤ r) → leb m r ≡ leb (a + m) c
says_room a m f c r e g h = go (leb m r) refl
  where
    go : (v : Bool) → leb m r ≡ v → v ≡ leb (a + m) c
    go true k = let l : m ≤ f = g (leb-true m r k) in sym (le-leb (a + m) c (omega arith))
    go false k = go₂ (leb (a + m) c) refl
      where
        go₂ : (w : Bool) → leb (a + m) c ≡ w → false ≡ w
        go₂ true q = let l : m ≤ r = h (omega (arith, leb-true (a + m) c q, e)) in absurd (omega (arith, leb-false m r k))
        go₂ false q = refl

sentinel : (n u : ℕ) → u ≡ free_ring n % 65536 → n ≤ 256 → free_ring n ≡ u
sentinel n u g l = omega arith

module _ {n c : ℕ} {xs : List ℕ} where
  ring : {cells : List Cell} {free : List ℕ} → Stands n c xs cells free → RingIn xs (links_at n c) (nodes_of n c) (free_ring n) free
  ring {cells} {free} S = rw (contents_free n cells free) at (S.rings.ring (free_ring n) (omega arith))

  second : {cells : List Cell} {x : ℕ} {free : List ℕ} → Stands n c xs cells (x ∷ free) → next_of xs (links_at n c) x ≡ head_of free (free_ring n)
  second {cells} {x} {free} S = next_of_lem [] x free (ring S)

  -- x is the first free node
  module _ (x : ℕ) (q : x ≡ first_free xs n c) where
    none_free : {cells : List Cell} (free : List ℕ) → Stands n c xs cells free → x ≡ 0 → length free ≡ 0
    none_free [] S e = refl
    none_free (y ∷ fs) S e = let k : x ≡ y = q ∙ first_free_is S in absurd (omega (arith, S.unused.1))

    some_free : {cells : List Cell} (free : List ℕ) → Stands n c xs cells free → x ≢ 0 → 1 ≤ length free
    some_free [] S d = absurd (d (q ∙ first_free_none S))
    some_free (y ∷ fs) S d = omega arith

    -- u is the sentinel
    module _ (u : ℕ) (g : u ≡ free_ring n % 65536) where
      one_free : {cells : List Cell} (free : List ℕ) → Stands n c xs cells free → next_of xs (links_at n c) x ≡ u → length free ≤ 1
      one_free [] S e = omega arith
      one_free (y ∷ []) S e = omega arith
      one_free (y ∷ z ∷ fs) S e =
          let i : x ≡ y = q ∙ first_free_is S in
          let k : z ≡ u = sym (second S) ∙ ap (next_of xs (links_at n c)) (sym i) ∙ e in
          absurd (omega (arith, S.unused.2.1, sentinel n u g S.stations))

      two_free : {cells : List Cell} (free : List ℕ) → Stands n c xs cells free → x ≢ 0 → next_of xs (links_at n c) x ≢ u → 2 ≤ length free
      two_free [] S d e = absurd (d (q ∙ first_free_none S))
      two_free (y ∷ []) S d e =
          let i : x ≡ y = q ∙ first_free_is S in
          absurd (e (ap (next_of xs (links_at n c)) i ∙ second S ∙ sentinel n u g S.stations))
      two_free (y ∷ z ∷ fs) S d e = omega arith

    -- ---- the answers

    pub full_is : Full n c xs (eqb x 0)
    full_is p setting now u cells H = go (eqb x 0) refl
      where
        go : (v : Bool) → eqb x 0 ≡ v → v ≡ leb c (length cells)
        go true k =
            let z = none_free H.stores.free H.stores.stands (eqb-true x 0 k) in
            sym (le-leb c (length cells) (omega (arith, z, H.stores.places)))
        go false k =
            let z = some_free H.stores.free H.stores.stands (eqb-false x 0 k) in
            sym (lt-leb c (length cells) (omega (arith, z, H.stores.places)))

    pub room_none : x ≡ 0 → HasRoom n c xs 0
    room_none e p setting now u cells H m l =
        let z = none_free H.stores.free H.stores.stands e in
        says_room (length cells) m (length H.stores.free) c 0 H.stores.places (λ k. omega arith) (λ k. omega arith)

    pub room_one : {u : ℕ} → u ≡ free_ring n % 65536 → x ≢ 0 → next_of xs (links_at n c) x ≡ u → HasRoom n c xs 1
    room_one {u} g d e p setting now v cells H m l =
        let y = some_free H.stores.free H.stores.stands d in
        let z = one_free u g H.stores.free H.stores.stands e in
        says_room (length cells) m (length H.stores.free) c 1 H.stores.places (λ k. omega arith) (λ k. omega arith)

    pub room_two : {u : ℕ} → u ≡ free_ring n % 65536 → x ≢ 0 → next_of xs (links_at n c) x ≢ u → HasRoom n c xs 2
    room_two {u} g d e p setting now v cells H m l =
        let z = two_free u g H.stores.free H.stores.stands d e in
        says_room (length cells) m (length H.stores.free) c 2 H.stores.places (λ k. omega arith) (λ k. omega arith)
