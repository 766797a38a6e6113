-- Where the index stands in a buffer of n stations and c slots, and which node is what.
use Rattle.std.specs.Prelude.{Bool, cond, ◌&&◌, List, ℕ, ◌+◌, ◌-◌, ◌*◌, ◌≤◌, ◌<◌, leb, ltb}
use Rattle.rings.specs.Table.{next_of}
use Rattle.engine_rows.specs.Layout.{slot_row}

-- ---- nodes: the sentinels, then the slots

-- of a station's ring of unrun events, of its ring of run ones, and of the free ring
abbrev pub unrun_ring : ℕ → ℕ
unrun_ring s = s

abbrev pub run_ring : ℕ → ℕ → ℕ
run_ring n s = n + s

abbrev pub free_ring : ℕ → ℕ
free_ring n = 2 * n

-- the node of a slot, and the slot of a node
abbrev pub node_of : ℕ → ℕ → ℕ
node_of n i = free_ring n + 1 + i

abbrev pub slot_of : ℕ → ℕ → ℕ
slot_of n x = x - (free_ring n + 1)

-- how many there are
abbrev pub nodes_of : ℕ → ℕ → ℕ
nodes_of n c = node_of n c

-- ---- bytes

-- the links start after the slots, and the log's after those
abbrev pub links_at : ℕ → ℕ → ℕ
links_at n c = slot_row n c

abbrev pub log_at : ℕ → ℕ → ℕ
log_at n c = links_at n c + 4 * nodes_of n c

-- the bytes of slots, links and log
abbrev pub index_bytes : ℕ → ℕ → ℕ
index_bytes n c = 64 * c + 8 * nodes_of n c

abbrev pub in_range : ℕ → ℕ → Bool
in_range n c = leb n 256 && leb c 4096

-- node x is a slot's, of an index that lies whole in so many bytes
pub record IsSlot (n c bytes x : ℕ) : Type 0 where
  pub stations : n ≤ 256
  pub capacity : c ≤ 4096
  pub room : slot_row n 0 + index_bytes n c ≤ bytes
  pub above : free_ring n < x
  pub below : x < nodes_of n c

-- the slot of a node after the sentinels, of an index that lies whole in so many bytes; c elsewhere
unfoldable pub slot_found : ℕ → ℕ → ℕ → ℕ → ℕ
slot_found n c bytes x = cond (in_range n c && (leb (slot_row n 0 + index_bytes n c) bytes && ltb (free_ring n) x)) (slot_of n x) c

-- ---- the log

-- the node after node x in it; 0 where the numbers are out of range
unfoldable pub next_logged : List ℕ → ℕ → ℕ → ℕ → ℕ
next_logged xs n c x = cond (in_range n c) (next_of xs (log_at n c) x) 0
