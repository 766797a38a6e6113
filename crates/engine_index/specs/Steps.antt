-- What the private steps of the changes do to the bytes; no promise to a caller cites these.
use Rattle.std.specs.Prelude.{◌≡◌, ◌⊎◌, Bool, ◌||◌, List, ℕ, ◌+◌, zero, suc, eqb, length}
use Rattle.words.specs.Le.{store_at}
use Rattle.line.specs.declared.Event.{Event}
use Rattle.line.specs.Event.{before}
use Rattle.rings.specs.Table.{prev_of, link_after, unlinked, empty_at}
use Rattle.rings.specs.Walk.{steps}
use Rattle.engine_rows.specs.Layout.{slot_row, free_status}
use Rattle.entry.specs.Entry.{event_at}
use Rattle.engine_index.specs.Layout.{free_ring, nodes_of, slot_of, links_at, IsSlot, node_of}

-- at the sentinel s, and at a node whose event comes before e
unfoldable pub stop_at : List ℕ → ℕ → ℕ → Event → ℕ → Bool
stop_at xs n s e i = eqb i s || before (event_at (slot_row n (slot_of n i)) xs) e

-- node x put into the ring of s by the event e
unfoldable pub filed : List ℕ → ℕ → ℕ → ℕ → ℕ → Event → ℕ → List ℕ
filed xs n o k s e x = link_after xs o k (steps (prev_of xs o) (stop_at xs n s e) k (prev_of xs o s)) x

-- node x put from its ring into the free ring, and its slot free
unfoldable pub freed : List ℕ → ℕ → ℕ → ℕ → ℕ → List ℕ
freed xs n o k x = link_after (unlinked (store_at 2 (slot_row n (slot_of n x) + 60) free_status xs) o k x) o k (free_ring n) x

-- it is, where node x is a slot's; elsewhere nothing is done
abbrev pub Frees : ℕ → ℕ → List ℕ → ℕ → List ℕ → Type 0
Frees n c xs x ys =
    (IsSlot n c (length xs) x × (ys ≡ freed xs n (links_at n c) (nodes_of n c) x)) ⊎ ((IsSlot n c (length xs) x → ⊥) × (ys ≡ xs))

-- ---- an index without events: empty rings, and all slots free

-- nodes 0 to m - 1 alone in their rings
unfoldable pub emptied : List ℕ → ℕ → ℕ → ℕ → List ℕ
emptied xs o k zero = xs
emptied xs o k (suc m) = empty_at (emptied xs o k m) o k m

-- slots 0 to i - 1 free, and in the free ring
unfoldable pub filled : List ℕ → ℕ → ℕ → ℕ → ℕ → List ℕ
filled xs n o k zero = xs
filled xs n o k (suc i) = link_after (store_at 2 (slot_row n i + 60) free_status (filled xs n o k i)) o k (free_ring n + i) (node_of n i)
