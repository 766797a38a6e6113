-- The first free slot, where the index lies whole in the bytes.
use mathlib.Core.Path.{◌≡◌}
use mathlib.Core.Bool.{Bool, true, false, cond}
use mathlib.Core.List.{List}
use Prim.Native.Nat.{ℕ, ◌≤◌, ◌<◌}
use native.Mathlib.Omega.{arith}
use borrow.Author.Tests.{lt-ltb, le-ltb}
use lib.Dec.{eqb, leb}
use lib.ListN.{length}
use Rattle.rings.specs.Table.{next_of}
use Rattle.engine_index.specs.Layout.{free_ring, links_at, slot_found}
use Rattle.engine_ends.specs.Ends.{first_free, spare_node}

module _ (xs : List ℕ) (n c : ℕ) where
  -- ---- a free slot

  pub free_next : {x : ℕ} → x ≡ first_free xs n c → free_ring n < x → x ≡ next_of xs (links_at n c) (free_ring n)
  unfolding first_free
  free_next {x} e l = go (leb n 256) (eqb (next_of xs (links_at n c) (free_ring n)) (free_ring n)) e
    where
      go : (v w : Bool) → x ≡ cond v (cond w 0 (next_of xs (links_at n c) (free_ring n))) 0 → x ≡ next_of xs (links_at n c) (free_ring n)
      go true false q = q
      go true true q = absurd (omega arith)
      go false w q = absurd (omega arith)

  pub spare_is : {x i : ℕ} → x ≡ first_free xs n c → i ≡ slot_found n c (length xs) x → i < c → x ≡ spare_node xs n c
  unfolding spare_node
  spare_is ex ei h = rw (← ex, ← ei, lt-ltb _ c h)

  pub spare_none : {x i : ℕ} → x ≡ first_free xs n c → i ≡ slot_found n c (length xs) x → c ≤ i → 0 ≡ spare_node xs n c
  unfolding spare_node
  spare_none ex ei h = rw (← ex, ← ei, le-ltb _ c h)
