-- How many bytes have room.
use mathlib.Core.Path.{◌≡◌, refl, sym, ap, ◌∙◌}
use mathlib.Core.Bool.{Bool, true, false}
use mathlib.Core.List.{List, [], ◌∷◌, ◌++◌}
use Prim.Native.Nat.{ℕ, zero, suc, ◌+◌, ◌-◌, ◌≤◌, min}
use native.Mathlib.Omega.{arith}
use lib.Dec.{ltb}
use lib.ListN.{length, take, drop, length-take, drop_of_length-le}
use lib.Seq.{take_all}
use borrow.Author.Tests.{ltb-true, ltb-false}
use Rattle.text_writing.specs.Promises.{fitting}

pub fit_length : (ws : List ℕ) (at : ℕ) (xs : List ℕ) → length (fitting ws at xs) ≡ min (length xs - at) (length ws)
unfolding fitting
fit_length ws at xs = length-take (length xs - at) ws

pub all_fit : (ws : List ℕ) (at : ℕ) (xs : List ℕ) → at + length ws ≤ length xs → fitting ws at xs ≡ ws
unfolding fitting
all_fit ws at xs h = take_all (length xs - at) ws (omega arith)

pub none_fit : (ws : List ℕ) (at : ℕ) (xs : List ℕ) → length xs ≤ at → fitting ws at xs ≡ []
unfolding fitting
none_fit ws at xs h = ap (λ (n : ℕ). take n ws) (let z : length xs - at ≡ 0 = omega arith in z)

-- what stands after the bytes, where some had no room, is nothing
pub past : (ws : List ℕ) (at : ℕ) (xs : List ℕ) → drop (at + length (fitting ws at xs)) xs ≡ drop (at + length ws) xs
past ws at xs = go (ltb (length xs) (at + length ws)) refl
  where
    go : (t : Bool) → ltb (length xs) (at + length ws) ≡ t → drop (at + length (fitting ws at xs)) xs ≡ drop (at + length ws) xs
    go false t = let h = ltb-false (length xs) (at + length ws) t in ap (λ (l : List ℕ). drop (at + length l) xs) (all_fit ws at xs h)
    go true t =
        let h = ltb-true (length xs) (at + length ws) t in
        drop_of_length-le xs {i = at + length (fitting ws at xs)} (omega (arith, fit_length ws at xs))
        ∙ sym (drop_of_length-le xs {i = at + length ws} (omega arith))

take_both : (n : ℕ) (a b : List ℕ) → take n (a ++ b) ≡ take n a ++ take (n - length (take n a)) b
take_both zero a b = sym (ap (λ (m : ℕ). take m b) (let z : 0 - 0 ≡ 0 = omega arith in z))
take_both (suc n) [] b = ap (λ (m : ℕ). take m b) (let z : suc n ≡ suc n - 0 = omega arith in z)
take_both (suc n) (x ∷ a) b =
    let z : n - length (take n a) ≡ suc n - suc (length (take n a)) = omega arith in
    ap (λ (l : List ℕ). x ∷ l) (take_both n a b ∙ ap (λ (m : ℕ). take n a ++ take m b) z)

-- bytes after bytes: the later ones have the room that the earlier ones leave
pub fit_both : (ws vs : List ℕ) (at : ℕ) (xs ys : List ℕ) → length ys ≡ length xs
    → fitting (ws ++ vs) at xs ≡ fitting ws at xs ++ fitting vs (at + length (fitting ws at xs)) ys
unfolding fitting
fit_both ws vs at xs ys e =
    let f = take (length xs - at) ws in
    let z : length xs - at - length f ≡ length ys - (at + length f) = omega arith in
    take_both (length xs - at) ws vs ∙ ap (λ (n : ℕ). f ++ take n vs) z
