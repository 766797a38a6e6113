-- A word, byte by byte.
use mathlib.Core.Path.{◌≡◌, ap, ◌∙◌}
use mathlib.Core.List.{List, [], ◌∷◌, ◌++◌}
use Prim.Native.Nat.{ℕ, suc, ◌+◌, ◌<◌}
use native.Mathlib.Omega.{arith}
use lib.ListN.{length, get_or, take}
use lib.Seq.{take-suc}

pub next_byte : (word : List ℕ) (i : ℕ) → i < length word → take (i + 1) word ≡ take i word ++ (get_or word i 0 ∷ [])
next_byte word i l = ap (λ (n : ℕ). take n word) (let z : i + 1 ≡ suc i = omega arith in z) ∙ take-suc word i 0 l
