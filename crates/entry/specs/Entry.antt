-- An event's 24 bytes, as a commit writes them, and the event that stands at a byte of a list (document 01, "Engine calls").
use Rattle.std.specs.Prelude.{cond, List, [], ◌∷◌, ◌++◌, ℕ, ◌+◌, ◌/◌, ◌%◌, eqb}
use Rattle.words.specs.Le.{bytes_of, load_at, store_at}
use Rattle.line.specs.declared.Event.{Event}
use Rattle.line.specs.declared.Matter.{Matter}
use Rattle.line.specs.declared.Matter.TheVariants.{Read, Frame, Level}
use Rattle.line.specs.Matter.{kind_of, value_of}

-- "24 little-endian bytes each: time 8, number 4, value 4, target 2, source 2, kind 4"
unfoldable pub entry : Event → List ℕ
entry x = bytes_of 8 x.time ++ (bytes_of 4 x.number ++ (bytes_of 4 (value_of x.matter) ++ (bytes_of 2 x.target ++ (bytes_of 2 x.source ++ bytes_of 4 (kind_of x.matter)))))

unfoldable pub entries : List Event → List ℕ
entries [] = []
entries (x ∷ xs) = entry x ++ entries xs

-- ---- at a byte of a list

-- the matter of a kind and a value, a frame's of the lower two bytes; a reading where there is no such kind
unfoldable pub matter_or : ℕ → ℕ → Matter
matter_or kind value = cond (eqb kind 2) (Frame (value % 256) (value / 256 % 256)) (cond (eqb kind 3) (Level value) Read)

unfoldable pub event_at : ℕ → List ℕ → Event
event_at at xs = record {
  time = load_at 8 at xs;
  target = load_at 2 (at + 16) xs;
  source = load_at 2 (at + 18) xs;
  number = load_at 4 (at + 8) xs;
  matter = matter_or (load_at 4 (at + 20) xs) (load_at 4 (at + 12) xs);
}

unfoldable pub put_event : ℕ → Event → List ℕ → List ℕ
put_event at x xs =
    store_at 4 (at + 20) (kind_of x.matter)
    (store_at 2 (at + 18) x.source
    (store_at 2 (at + 16) x.target (store_at 4 (at + 12) (value_of x.matter) (store_at 4 (at + 8) x.number (store_at 8 at x.time xs)))))
