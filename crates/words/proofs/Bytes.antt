-- A number whose bytes stand in a list is loaded from there, and the bytes of a number that was loaded are those that stand there.
use mathlib.Core.Path.{◌≡◌, refl, sym, ap, ap₂, ◌∙◌}
use mathlib.Core.List.{List, ◌∷◌, ◌++◌}
use Prim.Native.Nat.{ℕ, zero, suc, ◌+◌, ◌-◌, ◌*◌, ◌/◌, ◌%◌, ◌^◌, ◌≤◌, ◌<◌}
use native.Mathlib.Nat.{add-suc, suc-add, add-zero, mod-one, mod-eq_of_lt}
use native.Mathlib.Omega.{arith}
use lib.Arith.{digits_div, digits_mod}
use lib.ListN.{length, drop, get_or, length-append, length-drop}
use lib.Seq.{drop-cons, drop-drop, drop_at, get_or-drop}
use Rattle.words.specs.Le.{le_at, bytes_of, load_at}
use Rattle.words.proofs.Halves.{low_suc}
use Rattle.words.proofs.Total.{load_in}
use Rattle.words.proofs.Laws.{length_bytes}

-- ---- from the number to its bytes and back

le_drop : (n i j : ℕ) (xs : List ℕ) → le_at n j (drop i xs) ≡ le_at n (i + j) xs
unfolding le_at
le_drop zero i j xs = refl
le_drop (suc n) i j xs =
    ap₂ (λ (a b : ℕ). a * 256 + b) (le_drop n i (suc j) xs ∙ ap (λ (m : ℕ). le_at n m xs) (add-suc i j)) (get_or-drop i xs j 0)

-- cut to the width
le_bytes : (n v : ℕ) (ys : List ℕ) → le_at n 0 (bytes_of n v ++ ys) ≡ v % 256 ^ n
unfolding le_at bytes_of
le_bytes zero v ys = sym (mod-one v)
le_bytes (suc n) v ys =
    ap (λ (a : ℕ). a * 256 + v % 256) (sym (le_drop n 1 0 (v % 256 ∷ (bytes_of n (v / 256) ++ ys))) ∙ le_bytes n (v / 256) ys) ∙ sym (low_suc n v)

-- v's n bytes stand at i and end at j: v is loaded, and what follows stands at j
pub load_found : (n i j v : ℕ) (xs ys : List ℕ) → 0 < n → i + n ≡ j → v < 256 ^ n → drop i xs ≡ bytes_of n v ++ ys
    → (load_at n i xs ≡ v) × (drop j xs ≡ ys)
load_found n i j v xs ys some e h d =
    let l : length xs - i ≡ n + length ys = sym (length-drop i xs) ∙ ap length d ∙ simp (length-append, length_bytes) in (
      load_in n i xs (omega arith) ∙ sym (le_drop n i 0 xs ∙ ap (λ (m : ℕ). le_at n m xs) (add-zero i)) ∙ ap (le_at n 0) d ∙ le_bytes n v ys ∙ mod-eq_of_lt h,
      ap (λ (m : ℕ). drop m xs) (sym e) ∙ sym (drop-drop n i xs) ∙ ap (drop n) d ∙ drop_at (bytes_of n v) ys n (length_bytes n v),
    )

-- ---- from the bytes to their number and back

bytes_le : (n i : ℕ) (xs : List ℕ) → ((j : ℕ) → get_or xs j 0 < 256) → i + n ≤ length xs → bytes_of n (le_at n i xs) ++ drop (i + n) xs ≡ drop i xs
unfolding bytes_of le_at
bytes_le zero i xs b h = rw add-zero
bytes_le (suc n) i xs b h =
    rw (digits_div (le_at n (suc i) xs) (b i), digits_mod (le_at n (suc i) xs) (b i), drop-cons xs i 0 (omega arith), add-suc, ← suc-add)
    (ap (λ (l : List ℕ). get_or xs i 0 ∷ l) (bytes_le n (suc i) xs b (omega arith)))

-- the bytes of the number that was loaded from i, and then what stands after it at j
pub bytes_load : (n i j : ℕ) (xs : List ℕ) → ((j : ℕ) → get_or xs j 0 < 256) → i + n ≡ j → j ≤ length xs → bytes_of n (load_at n i xs) ++ drop j xs ≡ drop i xs
bytes_load n i j xs b e h =
    let l : i + n ≤ length xs = omega arith in
    rw (← e, load_in n i xs l) (bytes_le n i xs b l)
