-- What the console makes of its input (document 01, "Bench program"): the engine's buffer is xs at first and ys at last.
use Rattle.std.specs.Prelude.{◌≡◌, List, [], ◌∷◌, ◌++◌, ℕ}
use Rattle.bench_answers.specs.Promises.{Replied}

-- "A line ends with byte 10": of the input so far, the bytes of it after its last line's end, the buffer ys, and all that is printed
pub data Consumed (xs : List ℕ) : List ℕ → List ℕ → List ℕ → List ℕ → Type 0 where
  unfed : Consumed xs [] [] xs []
  inside : {input rest ys printed : List ℕ} (b : ℕ) → (b ≡ 10 → ⊥) → Consumed xs input rest ys printed → Consumed xs (input ++ b ∷ []) (rest ++ b ∷ []) ys printed
  ends : {input rest ys printed zs more : List ℕ} → Consumed xs input rest ys printed → Replied rest ys zs more
      → Consumed xs (input ++ 10 ∷ []) [] zs (printed ++ more)

-- "the last one may lack it": the input has ended
pub data Ended (xs input : List ℕ) : List ℕ → List ℕ → Type 0 where
  whole : {ys printed : List ℕ} → Consumed xs input [] ys printed → Ended xs input ys printed
  last : {b : ℕ} {bs ys printed zs more : List ℕ} → Consumed xs input (b ∷ bs) ys printed → Replied (b ∷ bs) ys zs more → Ended xs input zs (printed ++ more)
