-- Little-endian numbers in a list of bytes, over the width n in bytes.
use Rattle.std.specs.Prelude.{ℕ, zero, suc, ◌+◌, ◌*◌, ◌/◌, ◌%◌, cond, List, [], ◌∷◌, leb, length, get_or, set}

-- the number in the n bytes from index i, lowest byte first
unfoldable pub le_at : ℕ → ℕ → List ℕ → ℕ
le_at zero i xs = 0
le_at (suc n) i xs = le_at n (suc i) xs * 256 + get_or xs i 0

-- xs with the n lowest bytes of v at index i, lowest byte first
unfoldable pub put_le : ℕ → ℕ → ℕ → List ℕ → List ℕ
put_le zero i v xs = xs
put_le (suc n) i v xs = put_le n (suc i) (v / 256) (set xs i (v % 256))

-- the n lowest bytes of v, lowest first
unfoldable pub bytes_of : ℕ → ℕ → List ℕ
bytes_of zero v = []
bytes_of (suc n) v = v % 256 ∷ bytes_of n (v / 256)

-- a load of n bytes from index i: 0 where they do not lie whole in xs
unfoldable pub load_at : ℕ → ℕ → List ℕ → ℕ
load_at n i xs = cond (leb (i + n) (length xs)) (le_at n i xs) 0

-- a store of the n lowest bytes of v at index i: no change where they do not lie whole in xs
unfoldable pub store_at : ℕ → ℕ → ℕ → List ℕ → List ℕ
store_at n i v xs = cond (leb (i + n) (length xs)) (put_le n i v xs) xs
