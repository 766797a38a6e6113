-- The line that the star tariff's program prints (document 02, change 14).
use Rattle.std.specs.Prelude.{List, [], ◌∷◌, ◌++◌, ℕ, Option, Some, None}
use Rattle.text.specs.Spaced.{spaced}
use Rattle.bench_command.specs.Lines.{no_word}

abbrev pub yes_word : List ℕ
yes_word = 121 ∷ 101 ∷ 115 ∷ []

-- "prints one line, "yes SUM" or "no""
unfoldable pub tariff_line : Option ℕ → List ℕ
tariff_line (Some sum) = spaced yes_word (sum ∷ []) ++ 10 ∷ []
tariff_line None = no_word ++ 10 ∷ []
