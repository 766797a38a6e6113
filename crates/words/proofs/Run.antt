-- Numbers stored one after the other, each with its width: what is read of them, and beside them.
use mathlib.Core.Path.{◌≡◌, refl, sym, ap, ap₂, ◌∙◌}
use mathlib.Core.Logic.{inl, inr}
use mathlib.Core.List.{List, [], ◌∷◌, ◌++◌, append_assoc}
use Prim.Native.Nat.{ℕ, ◌+◌, ◌^◌, ◌≤◌, ◌<◌}
use native.Mathlib.Nat.{add-zero}
use native.Mathlib.Omega.{arith}
use lib.ListN.{length, take, drop, take-append-drop, length-append, length-take}
use lib.Seq.{take_at, drop-drop, drop-append-add}
use Rattle.words.specs.Le.{bytes_of, load_at, store_at}
use Rattle.words.proofs.Total.{store_in}
use Rattle.words.proofs.Laws.{Apart, length_store, load_other, load_stored, length_bytes, put_parts}

-- a width and a number for each
abbrev pub Run : Type 0
Run = List (ℕ × ℕ)

-- its stores, from byte k of those from at on
unfoldable pub puts : ℕ → ℕ → Run → List ℕ → List ℕ
puts at k [] xs = xs
puts at k ((w, v) ∷ r) xs = puts at (k + w) r (store_at w (at + k) v xs)

-- its bytes
unfoldable pub size : Run → ℕ
size [] = 0
size ((w, v) ∷ r) = w + size r

unfoldable pub bytes : Run → List ℕ
bytes [] = []
bytes ((w, v) ∷ r) = bytes_of w v ++ bytes r

-- each number fits its width
unfoldable pub Fit : Run → Type 0
Fit [] = Unit {0}
Fit ((w, v) ∷ r) = (v < 256 ^ w) × Fit r

-- each is read where it stands
unfoldable pub Reads : ℕ → ℕ → Run → List ℕ → Type 0
Reads at k [] xs = Unit {0}
Reads at k ((w, v) ∷ r) xs = (load_at w (at + k) xs ≡ v) × Reads at (k + w) r xs

pub length_puts : (at k : ℕ) (r : Run) (xs : List ℕ) → length (puts at k r xs) ≡ length xs
unfolding puts
length_puts at k [] xs = refl
length_puts at k ((w, v) ∷ r) xs = length_puts at (k + w) r (store_at w (at + k) v xs) ∙ length_store w (at + k) v xs

pub puts_beside : (at k : ℕ) (r : Run) (xs : List ℕ) (m j : ℕ) → Apart (at + k) (size r) j m → load_at m j (puts at k r xs) ≡ load_at m j xs
unfolding puts size
puts_beside at k [] xs m j a = refl
puts_beside at k ((w, v) ∷ r) xs m j (inl h) =
    puts_beside at (k + w) r (store_at w (at + k) v xs) m j (inl (omega arith)) ∙ load_other m w (at + k) v xs j (inl (omega arith))
puts_beside at k ((w, v) ∷ r) xs m j (inr h) =
    puts_beside at (k + w) r (store_at w (at + k) v xs) m j (inr (omega arith)) ∙ load_other m w (at + k) v xs j (inr (omega arith))

pub puts_back : (at k : ℕ) (r : Run) (xs : List ℕ) → at + k + size r ≤ length xs → Fit r → Reads at k r (puts at k r xs)
unfolding puts size Fit Reads
puts_back at k [] xs h f = tt
puts_back at k ((w, v) ∷ r) xs h (f, fs) =
    let ys : List ℕ = store_at w (at + k) v xs in (
      puts_beside at (k + w) r ys w (at + k) (inr (omega arith)) ∙ load_stored w (at + k) v xs (omega arith) f,
      puts_back at (k + w) r ys (rw (length_store w (at + k) v xs) (omega arith)) fs,
    )

-- a list with a run in it
pub puts_parts : (at k : ℕ) (r : Run) (xs : List ℕ) → at + k + size r ≤ length xs
    → puts at k r xs ≡ take (at + k) xs ++ (bytes r ++ drop (at + k + size r) xs)
unfolding puts size bytes
puts_parts at k [] xs h = rw add-zero (sym (take-append-drop (at + k) xs))
puts_parts at k ((w, v) ∷ r) xs h =
    puts_parts at (k + w) r ys (rw (length_store w i v xs) (omega arith))
    ∙ ap₂ (λ (a b : List ℕ). a ++ (bytes r ++ b)) front back
    ∙ append_assoc (take i xs) (bytes_of w v) (bytes r ++ rest)
    ∙ ap (λ (b : List ℕ). take i xs ++ b) (sym (append_assoc (bytes_of w v) (bytes r) rest))
  where
    i : ℕ
    i = at + k

    ys : List ℕ
    ys = store_at w i v xs

    rest : List ℕ
    rest = drop (i + (w + size r)) xs

    part : List ℕ
    part = take i xs ++ bytes_of w v

    cut : ys ≡ part ++ drop (i + w) xs
    cut = store_in w i v xs (omega arith) ∙ put_parts w i v xs (omega arith) ∙ sym (append_assoc (take i xs) (bytes_of w v) (drop (i + w) xs))

    long : length part ≡ at + (k + w)
    long = simp (length-append, length_bytes, length-take) (omega arith)

    front : take (at + (k + w)) ys ≡ part
    front = ap (take (at + (k + w))) cut ∙ take_at part (drop (i + w) xs) (at + (k + w)) long

    back : drop (at + (k + w) + size r) ys ≡ rest
    back =
        let e : i + w + size r ≡ i + (w + size r) = omega arith in
        ap₂ (λ (m : ℕ) (l : List ℕ). drop (m + size r) l) (sym long) cut
        ∙ drop-append-add part (drop (i + w) xs) (size r)
        ∙ drop-drop (size r) (i + w) xs
        ∙ ap (λ (m : ℕ). drop m xs) e
