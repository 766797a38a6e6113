-- What reading a word, or a number, in a line promises.
use Rattle.std.specs.Prelude.{◌≡◌, Bool, true, false, List, ◌++◌, ℕ, ◌+◌, ◌≤◌, length, drop, Option, None, Some}
use Rattle.text.specs.Decimal.{decimal, Fits, Stops}
use Rattle.text_reading.specs.declared.Number.{Number}

-- whether a line begins with a word
pub record Begins (word xs : List ℕ) (r : Bool) : Type 0 where
  pub begun : r ≡ true → xs ≡ word ++ drop (length word) xs
  pub other : r ≡ false → (rest : List ℕ) → xs ≡ word ++ rest → ⊥

-- the number that stands from byte `at` on after the bytes `lead`, and where it ends
pub record Numbers (lead : List ℕ) (xs : List ℕ) (at : ℕ) (r : Option Number) : Type 0 where
  pub found : (n : Number) → r ≡ Some n → Fits n.value × (drop at xs ≡ lead ++ (decimal n.value ++ drop n.end xs)) × (n.end ≤ length xs)
  pub finds : (v : ℕ) (rest : List ℕ) → Fits v → drop at xs ≡ lead ++ (decimal v ++ rest) → Stops rest
      → r ≡ Some (record { value = v; end = at + length lead + length (decimal v) })

-- the number that stands from byte `at` on after the bytes `lead`, where nothing stands after it
pub record Lasts (lead : List ℕ) (xs : List ℕ) (at : ℕ) (r : Option Number) : Type 0 where
  pub found : (n : Number) → r ≡ Some n → Fits n.value × (drop at xs ≡ lead ++ decimal n.value)
  pub absent : r ≡ None → (v : ℕ) → Fits v → drop at xs ≡ lead ++ decimal v → ⊥
