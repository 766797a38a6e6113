-- A decimal is written from its last digit to its first; a digit that has no room is left out.
use mathlib.Core.Path.{◌≡◌, sym, ap, ◌∙◌}
use mathlib.Core.List.{List, [], ◌∷◌, ◌++◌, append_assoc, append-nil}
use Prim.Native.Nat.{ℕ, suc, ◌+◌, ◌-◌, ◌/◌, ◌%◌, ◌≤◌, ◌<◌, min}
use native.Mathlib.Omega.{arith}
use lib.ListN.{length, get_or, set, take, drop, length-append, take-append-drop}
use lib.Seq.{length-take-le, set_at, take-suc, take_all, take-nil}
use Rattle.text.specs.Decimal.{digits, decimal}
use Rattle.text.proofs.Places.{enough, last_digit}
use Rattle.text_writing.specs.Promises.{fitting, Appends}
use Rattle.text_writing.proofs.Fitting.{past, fit_length}

-- k digits are left, which the number `rest` has; `tail` are the others
record Cut (v rest k : ℕ) (tail : List ℕ) : Type 0 where
  left : decimal v ≡ digits k rest ++ tail
  places : length (digits k rest) ≡ k

uncut : (v n : ℕ) → n ≡ length (decimal v) → Cut v v n []
unfolding decimal
uncut v n size =
    let all : digits n v ≡ decimal v = ap (λ (m : ℕ). digits m v) size ∙ enough 20 v in
    record { left = sym all ∙ sym (append-nil (digits n v)); places = ap length all ∙ sym size }

cut_one : (v rest j : ℕ) (tail : List ℕ) → Cut v rest (suc j) tail → Cut v (rest / 10) j ((48 + rest % 10) ∷ tail)
cut_one v rest j tail c =
    let d = 48 + rest % 10 in
    let last = last_digit j rest c.places in
    record {
      left = c.left ∙ ap (λ (l : List ℕ). l ++ tail) last ∙ append_assoc (digits j (rest / 10)) (d ∷ []) tail;
      places = let q = ap length last ∙ length-append (digits j (rest / 10)) (d ∷ []) in omega (arith, q, c.places);
    }

-- ---- the bytes while it is written

pub record Writing (v n at : ℕ) (xs : List ℕ) (rest k : ℕ) (ys : List ℕ) : Type 0 where
  tail : List ℕ
  cut : Cut v rest k tail
  text : ys ≡ take (at + k) xs ++ (take (length xs - at - k) tail ++ drop (at + n) xs)

module _ (v n at : ℕ) (xs : List ℕ) (size : n ≡ length (decimal v)) (inside : at < length xs) where
  pub start : Writing v n at xs v n xs
  start =
      record {
        tail = [];
        cut = uncut v n size;
        text =
            sym (ap (λ (l : List ℕ). take (at + n) xs ++ (l ++ drop (at + n) xs)) (take-nil (length xs - at - n)) ∙ take-append-drop (at + n) xs);
      }

  module _ (rest k : ℕ) (ys : List ℕ) (w : Writing v n at xs rest k ys) where
    -- a digit that has room
    pub store : 0 < k → k - 1 < length xs - at → Writing v n at xs (rest / 10) (k - 1) (set ys (at + (k - 1)) (48 + rest % 10))
    store p room = go (k - 1) (omega arith) room
      where
        go : (j : ℕ) → k ≡ suc j → j < length xs - at → Writing v n at xs (rest / 10) j (set ys (at + j) (48 + rest % 10))
        go j e l =
            let d = 48 + rest % 10 in
            let x = get_or xs (at + j) 0 in
            let f = take (length xs - at - k) w.tail in
            let rs = drop (at + n) xs in
            let front : take (at + k) xs ≡ take (at + j) xs ++ (x ∷ []) =
            ap (λ (m : ℕ). take m xs) (let z : at + k ≡ suc (at + j) = omega arith in z) ∙ take-suc xs (at + j) 0 (omega arith) in
            let here : ys ≡ take (at + j) xs ++ (x ∷ (f ++ rs)) =
            w.text ∙ ap (λ (l : List ℕ). l ++ (f ++ rs)) front ∙ append_assoc (take (at + j) xs) (x ∷ []) (f ++ rs) in
            let one_more : d ∷ f ≡ take (length xs - at - j) (d ∷ w.tail) =
            ap (λ (m : ℕ). take m (d ∷ w.tail)) (let z : suc (length xs - at - k) ≡ length xs - at - j = omega arith in z) in
            record {
              tail = d ∷ w.tail;
              cut = cut_one v rest j w.tail (rw e at w.cut);
              text =
                  ap (λ (l : List ℕ). set l (at + j) d) here
                  ∙ set_at (take (at + j) xs) x (f ++ rs) d (at + j) (length-take-le (at + j) xs (omega arith))
                  ∙ ap (λ (l : List ℕ). take (at + j) xs ++ (l ++ rs)) one_more;
            }

    -- a digit that has none
    pub leave : 0 < k → length xs - at ≤ k - 1 → Writing v n at xs (rest / 10) (k - 1) ys
    leave p room = go (k - 1) (omega arith) room
      where
        go : (j : ℕ) → k ≡ suc j → length xs - at ≤ j → Writing v n at xs (rest / 10) j ys
        go j e l =
            let d = 48 + rest % 10 in
            let rs = drop (at + n) xs in
            let front : take (at + k) xs ≡ take (at + j) xs = take_all (at + k) xs (omega arith) ∙ sym (take_all (at + j) xs (omega arith)) in
            let before : take (length xs - at - k) w.tail ≡ [] =
            ap (λ (m : ℕ). take m w.tail) (let z : length xs - at - k ≡ 0 = omega arith in z) in
            let after : take (length xs - at - j) (d ∷ w.tail) ≡ [] =
            ap (λ (m : ℕ). take m (d ∷ w.tail)) (let z : length xs - at - j ≡ 0 = omega arith in z) in
            record {
              tail = d ∷ w.tail;
              cut = cut_one v rest j w.tail (rw e at w.cut);
              text =
                  w.text ∙ ap (λ (l : List ℕ). l ++ (take (length xs - at - k) w.tail ++ rs)) front
                  ∙ ap (λ (l : List ℕ). take (at + j) xs ++ (l ++ rs)) (before ∙ sym after);
            }

    pub finish : k ≡ 0 → (r : ℕ) → r ≡ min (at + n) (length xs) → Appends (decimal v) at xs r ys
    unfolding digits fitting
    finish z r end =
        let all : w.tail ≡ decimal v = sym (w.cut.left ∙ ap (λ (m : ℕ). digits m rest ++ w.tail) z) in
        let f = take (length xs - at) (decimal v) in
        record {
          written =
              w.text ∙ ap (λ (m : ℕ). take m xs ++ (take (length xs - at - k) w.tail ++ drop (at + n) xs)) (let q : at + k ≡ at = omega arith in q)
              ∙ ap (λ (m : ℕ). take at xs ++ (take m w.tail ++ drop (at + n) xs)) (let q : length xs - at - k ≡ length xs - at = omega arith in q)
              ∙ ap (λ (l : List ℕ). take at xs ++ (take (length xs - at) l ++ drop (at + n) xs)) all
              ∙ ap (λ (m : ℕ). take at xs ++ (f ++ drop (at + m) xs)) size
              ∙ ap (λ (l : List ℕ). take at xs ++ (f ++ l)) (sym (past (decimal v) at xs));
          ends = omega (arith, end, size, fit_length (decimal v) at xs);
        }
