-- A word with numbers after it.
use Rattle.std.specs.Prelude.{List, [], ◌∷◌, ◌++◌, ℕ}
use Rattle.text.specs.Decimal.{decimal}

-- numbers after a word, each after one space
unfoldable pub spaced : List ℕ → List ℕ → List ℕ
spaced word [] = word
spaced word (n ∷ ns) = spaced (word ++ (32 ∷ decimal n)) ns
