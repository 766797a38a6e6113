-- What the changes answer on any bytes.
use Rattle.std.specs.Prelude.{Bool, cond, ◌&&◌, List, ℕ, eqb, ltb, length}
use Rattle.line.specs.declared.Event.{Event}
use Rattle.entry.specs.Entry.{event_at}
use Rattle.engine_rows.specs.Layout.{slot_row, run_status}
use Rattle.engine_index.specs.Layout.{slot_of, slot_found}
use Rattle.engine_index.specs.Represents.{status_at}
use Rattle.engine_ends.specs.Ends.{spare_node}
use Rattle.engine_events.specs.Represents.{fits_in}

-- the node at which an event is held: the first free slot's; 0 where it is not held
unfoldable pub held_node : List ℕ → ℕ → ℕ → Event → ℕ
held_node xs n c e = cond (fits_in n c (length xs) && ltb e.target n) (spare_node xs n c) 0

-- is node x that of a run event at a station?
unfoldable pub has_run_at : List ℕ → ℕ → ℕ → ℕ → Bool
has_run_at xs n c x =
    fits_in n c (length xs)
    && (ltb (slot_found n c (length xs) x) c && (eqb (status_at n x xs) run_status && ltb (event_at (slot_row n (slot_of n x)) xs).target n))
