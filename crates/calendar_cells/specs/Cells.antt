-- The cells of the table: words of 64 bits from byte 0 on, 257 numbers of 32 bits from byte 2272 on, and numbers of 16 bits from byte 3304 on.
use Rattle.std.specs.Prelude.{List, ℕ, ◌+◌, ◌*◌}
use Rattle.words.specs.Le.{load_at, store_at}

unfoldable pub word_at : ℕ → List ℕ → ℕ
word_at i xs = load_at 8 (8 * i) xs

unfoldable pub put_word : ℕ → ℕ → List ℕ → List ℕ
put_word i v xs = store_at 8 (8 * i) v xs

unfoldable pub back_at : ℕ → List ℕ → ℕ
back_at k xs = load_at 4 (2272 + 4 * k) xs

unfoldable pub put_back : ℕ → ℕ → List ℕ → List ℕ
put_back k v xs = store_at 4 (2272 + 4 * k) v xs

unfoldable pub link_at : ℕ → List ℕ → ℕ
link_at p xs = load_at 2 (3304 + 2 * p) xs

unfoldable pub put_link : ℕ → ℕ → List ℕ → List ℕ
put_link p v xs = store_at 2 (3304 + 2 * p) v xs
