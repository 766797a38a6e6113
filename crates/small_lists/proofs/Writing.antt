-- An output with the first lists at its front, one list after the other.
use mathlib.Core.Path.{◌≡◌, refl, sym, ap, ap₂, ◌∙◌}
use mathlib.Core.List.{List, [], ◌∷◌, ◌++◌, append_assoc, append-nil}
use Prim.Native.Nat.{ℕ, ◌+◌, ◌*◌, ◌<◌}
use native.Mathlib.Numerals.{add-one}
use native.Mathlib.Omega.{arith}
use lib.ListN.{length, take, drop, get_or}
use lib.Seq.{take-suc, take_at, drop_at, drop-drop}
use borrow.Rule.Slice.PartMut.{put_mid}
use Rattle.small_lists.specs.Listing.{listing, four_bytes, bytes_of_lists}
use Rattle.small_lists.proofs.Complete.{listing_count, written_length, written_all}

-- ---- the bytes of some lists

bytes_join : (ls ms : List (List ℕ)) → bytes_of_lists (ls ++ ms) ≡ bytes_of_lists ls ++ bytes_of_lists ms
unfolding bytes_of_lists
bytes_join [] ms = refl
bytes_join (l ∷ ls) ms = ap (λ xs. four_bytes l ++ xs) (bytes_join ls ms) ∙ sym (append_assoc (four_bytes l) (bytes_of_lists ls) (bytes_of_lists ms))

-- of one list more
bytes_more : (ls : List (List ℕ)) (i : ℕ) → i < length ls → bytes_of_lists (take (i + 1) ls) ≡ bytes_of_lists (take i ls) ++ four_bytes (get_or ls i [])
unfolding bytes_of_lists
bytes_more ls i h =
    rw (add-one, take-suc ls i [] h)
    (bytes_join (take i ls) (get_or ls i [] ∷ []) ∙ ap (λ xs. bytes_of_lists (take i ls) ++ xs) (append-nil (four_bytes (get_or ls i []))))

-- ---- the output

-- the first i lists stand at the front of xs
abbrev pub front : List ℕ → ℕ → List ℕ
front xs i = bytes_of_lists (take i listing) ++ drop (4 * i) xs

pub front_none : (xs : List ℕ) → xs ≡ front xs 0
unfolding bytes_of_lists
front_none xs = let e : 4 * 0 ≡ 0 = omega arith in ap (λ k. drop k xs) (sym e)

pub front_all : (xs : List ℕ) → front xs 400 ≡ bytes_of_lists listing ++ drop 1600 xs
front_all xs = ap (λ ls. bytes_of_lists ls ++ drop 1600 xs) written_all

-- list i is put after the lists before it
pub front_more : (xs out four : List ℕ) (i k : ℕ) → i < 400 → four_bytes (get_or listing i []) ≡ four → k ≡ 4 → out ≡ front xs i
    → put_mid (4 * i) k out four ≡ front xs (i + 1)
front_more xs out four i k l e f h =
    let done : List ℕ = bytes_of_lists (take i listing) in
    let rest : List ℕ = drop (4 * i) xs in
    let size : length done ≡ 4 * i = written_length i (omega arith) in
    let next : 4 * i + 4 ≡ 4 * (i + 1) = omega arith in
    ap₂ (λ (ys zs : List ℕ). ys ++ (four ++ drop k zs)) (ap (take (4 * i)) h ∙ take_at done rest (4 * i) size) (ap (drop (4 * i)) h ∙ drop_at done rest (4 * i) size)
    ∙ ap (λ (m : ℕ). done ++ (four ++ drop m rest)) f
    ∙ ap (λ (ys : List ℕ). done ++ (four ++ ys)) (drop-drop 4 (4 * i) xs ∙ ap (λ (m : ℕ). drop m xs) next)
    ∙ sym (append_assoc done four (drop (4 * (i + 1)) xs))
    ∙ ap (λ (ys : List ℕ). done ++ ys ++ drop (4 * (i + 1)) xs) (sym e)
    ∙ ap (λ (ys : List ℕ). ys ++ drop (4 * (i + 1)) xs) (sym (bytes_more listing i (omega (arith, listing_count))))
