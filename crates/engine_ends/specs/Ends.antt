-- The first and the last node of a ring; 0 where there is none.
use Rattle.std.specs.Prelude.{cond, ◌&&◌, List, ℕ, eqb, leb, ltb, length}
use Rattle.rings.specs.Table.{next_of, prev_of}
use Rattle.engine_index.specs.Layout.{unrun_ring, run_ring, free_ring, links_at, slot_found, next_logged}

-- the node x that stands next to the sentinel u: none where it is u
abbrev pub beside_sentinel : ℕ → ℕ → ℕ
beside_sentinel u x = cond (eqb x u) 0 x

-- of the unrun events of station s
unfoldable pub first_unrun : List ℕ → ℕ → ℕ → ℕ → ℕ
first_unrun xs n c s = cond (ltb s n) (beside_sentinel (unrun_ring s) (next_of xs (links_at n c) (unrun_ring s))) 0

-- of its run events
unfoldable pub first_run : List ℕ → ℕ → ℕ → ℕ → ℕ
first_run xs n c s = cond (ltb s n && leb n 256) (beside_sentinel (run_ring n s) (next_of xs (links_at n c) (run_ring n s))) 0

unfoldable pub last_run : List ℕ → ℕ → ℕ → ℕ → ℕ
last_run xs n c s = cond (ltb s n && leb n 256) (beside_sentinel (run_ring n s) (prev_of xs (links_at n c) (run_ring n s))) 0

-- of the free slots
unfoldable pub first_free : List ℕ → ℕ → ℕ → ℕ
first_free xs n c = cond (leb n 256) (beside_sentinel (free_ring n) (next_of xs (links_at n c) (free_ring n))) 0

-- the first free slot's, where the index lies whole in the bytes
unfoldable pub spare_node : List ℕ → ℕ → ℕ → ℕ
spare_node xs n c = cond (ltb (slot_found n c (length xs) (first_free xs n c)) c) (first_free xs n c) 0

-- of the log, whose sentinel is 0
abbrev pub first_logged : List ℕ → ℕ → ℕ → ℕ
first_logged xs n c = next_logged xs n c 0
