-- What appending bytes to a text promises, for every buffer.
use Rattle.std.specs.Prelude.{◌≡◌, List, ◌++◌, ℕ, ◌+◌, ◌-◌, length, take, drop}

-- as many of the bytes ws as there is room for from byte `at` on
unfoldable pub fitting : List ℕ → ℕ → List ℕ → List ℕ
fitting ws at xs = take (length xs - at) ws

-- they stand from byte `at` on, nothing else is changed, and r is where they end
pub record Appends (ws : List ℕ) (at : ℕ) (xs : List ℕ) (r : ℕ) (ys : List ℕ) : Type 0 where
  pub written : ys ≡ take at xs ++ (fitting ws at xs ++ drop (at + length (fitting ws at xs)) xs)
  pub ends : r ≡ at + length (fitting ws at xs)
