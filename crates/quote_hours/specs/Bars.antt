-- The bar after an hour's numbers in the table of hours.
use Rattle.std.specs.Prelude.{List, [], ◌∷◌, ℕ, zero, suc, replicate}

-- two spaces and so many times '#'; nothing where it has none
unfoldable pub bar : ℕ → List ℕ
bar zero = []
bar (suc n) = 32 ∷ 32 ∷ replicate (suc n) 35
