-- What reading and writing promise. The kit's contracts do not say what the input is, so nothing here can say how long the line is.
use Rattle.std.specs.Prelude.{◌≡◌, ◌≢◌, List, ℕ, ◌<◌, ◌≤◌, get_or, length, take, drop, Option}
use Rattle.std.specs.Io.KnownBytes.{Appends}

-- `&ys[..n]` is in bounds and has n bytes
abbrev pub IsPrefixLen : ℕ → List ℕ → Type 0
IsPrefixLen n ys = (n ≤ length ys) × (n ≡ length (take n ys))

-- the first r bytes of the buffer are a line without its end, "A line ends with byte 10" (document 01, "Bench program"); the bytes after them are as they
-- were
pub record ReadsLine (xs : List ℕ) (r : ℕ) (ys : List ℕ) : Type 0 where
  pub counts : IsPrefixLen r ys
  pub unended : (i : ℕ) → i < r → get_or ys i 0 ≢ 10
  pub kept : drop r ys ≡ drop r xs

-- of the first n bytes of a text, which it has, the first k are written, not all
abbrev pub WritesFront : Option (List ℕ) → Option (List ℕ) → ℕ → List ℕ → Type 0
WritesFront old new n text = (n ≤ length text) × ((k : ℕ) × (k < n) × Appends old new (take k text))
