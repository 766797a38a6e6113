-- What the search for the first station ensures, step by step; no promise to a caller cites these.
use Rattle.std.specs.Prelude.{◌≡◌, Option, Some, None, List, ℕ, ◌+◌, ◌-◌, ◌≤◌, ◌<◌}
use Rattle.calendar_cells.specs.Lists.{rank_of}
use Rattle.calendar_cells.specs.Table.{due_of, Due, Waits}
use Rattle.calendar_ring.specs.Ring.{block_of}
use Rattle.calendar_header.specs.Bytes.{width_of, floor_of, limit_of}

-- h is the station of least due, the lowest-numbered of these. words is how many bitmap words are read: the roots of the blocks from the floor's to its
-- time's, and a node; all 16 roots where its time lies after the ring
pub record FirstAt (xs : List ℕ) (a h words : ℕ) : Type 0 where
  pub station : h < 256
  pub due : Due xs h
  pub least : (x : ℕ) → x < 256 → Due xs x → rank_of (due_of xs) h ≤ rank_of (due_of xs) x
  pub ring : due_of xs h - 1 < limit_of xs → words ≡ block_of a (width_of xs) (due_of xs h - 1) - block_of a (width_of xs) (floor_of xs) + 2
  pub over : limit_of xs ≤ due_of xs h - 1 → words ≡ 16

-- that station; or none is registered
abbrev pub FirstOf : ℕ → List ℕ → Option ℕ → ℕ → Type 0
FirstOf a xs None words = (x : ℕ) → x < 256 → due_of xs x ≡ 0
FirstOf a xs (Some h) words = FirstAt xs a h words

-- the same among the stations below k of the overflow table
abbrev pub Nearest : ℕ → List ℕ → ℕ → Option ℕ → Type 0
Nearest a xs k None = (x : ℕ) → x < 256 → x < k → Waits a xs x → ⊥
Nearest a xs k (Some h) =
    (h < 256) × (Waits a xs h) × ((x : ℕ) → x < 256 → x < k → Waits a xs x → rank_of (due_of xs) h ≤ rank_of (due_of xs) x)

-- r is s where there is no best or s is due earlier, else the best
abbrev pub Nearer : List ℕ → Option ℕ → ℕ → ℕ → Type 0
Nearer xs None s r = r ≡ s
Nearer xs (Some h) s r = (due_of xs s < due_of xs h → r ≡ s) × (due_of xs h ≤ due_of xs s → r ≡ h)
