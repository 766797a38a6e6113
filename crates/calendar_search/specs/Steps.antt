-- What the private steps of a search ensure; no promise to a caller cites these.
use Rattle.std.specs.Prelude.{◌≡◌, List, ℕ, ◌+◌, ◌*◌, ◌%◌, ◌^◌}
use Rattle.calendar_bitmap.specs.Promises.{FirstChild}
use Rattle.calendar_cells.specs.Table.{node_word}

-- l is the first leaf under the root word x of slot r: the first child of x, and the first child of that node's word
pub record LeafUnder (a : ℕ) (xs : List ℕ) (r x l : ℕ) : Type 0 where
  pub node : ℕ
  pub leaf : ℕ
  pub node_is : FirstChild a (x % 2 ^ a) node
  pub leaf_is : FirstChild a (node_word a xs (r * a + node) % 2 ^ a) leaf
  pub at : l ≡ (r * a + node) * a + leaf
