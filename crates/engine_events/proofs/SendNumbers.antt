-- The nodes of a node's sends are the first two numbers of its slot.
use mathlib.Core.Path.{◌≡◌, ap, ◌∙◌}
use mathlib.Core.List.{List}
use Prim.Native.Nat.{ℕ, ◌+◌, ◌*◌}
use native.Mathlib.Omega.{arith}
use Rattle.words.specs.Le.{load_at}
use Rattle.engine_rows.specs.Layout.{slot_row}
use Rattle.engine_index.specs.Layout.{slot_of}

-- number k of the slot, at its byte m
pub number_at : (n x k m : ℕ) (xs : List ℕ) {i r : ℕ} → i ≡ slot_of n x → r ≡ load_at 2 (slot_row n i + 56 + 2 * k) xs → 56 + 2 * k ≡ m
    → r ≡ load_at 2 (slot_row n (slot_of n x) + m) xs
number_at n x k m xs {i} e h w =
    let at : slot_row n i + 56 + 2 * k ≡ slot_row n (slot_of n x) + m = omega arith in
    h ∙ ap (λ (j : ℕ). load_at 2 j xs) at
