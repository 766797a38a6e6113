-- The digits of a decimal say its number, and digits without a leading zero are the decimal of what they say.
use mathlib.Core.Path.{◌≡◌, refl, sym, ap, ◌∙◌}
use mathlib.Core.Bool.{Bool, true, false}
use mathlib.Core.List.{List, [], ◌∷◌, ◌++◌, append_assoc, append_cancel_left}
use Prim.Native.Nat.{ℕ, suc, ◌+◌, ◌-◌, ◌*◌, ◌/◌, ◌%◌, ◌<◌, ◌≤◌}
use native.Mathlib.Omega.{arith}
use lib.Dec.{eqb}
use lib.ListN.{length, get_or, drop, length-append}
use lib.Seq.{drop-nil}
use borrow.Author.Tests.{eqb-true, eqb-false}
use Rattle.text.specs.Decimal.{decimal, Fits, is_digit, Stops}
use Rattle.text.specs.Numeral.{digit_count, total}
use Rattle.text.proofs.Tenths.{decimal_one, decimal_more, by_tenths}
use Rattle.text.proofs.Numerals.{is_digit_lem, digit_is, count_digit, total_digit, count_stops, total_stops, stops_count, total_least}

-- a decimal at the front of a text, by its last digit
front : (v : ℕ) (rest : List ℕ) → Fits v → 10 ≤ v → decimal v ++ rest ≡ decimal (v / 10) ++ ((48 + v % 10) ∷ rest)
front v rest f h = ap (λ (ds : List ℕ). ds ++ rest) (decimal_more v f h) ∙ append_assoc (decimal (v / 10)) ((48 + v % 10) ∷ []) rest

-- ---- from the number to its digits

pub length_more : (v : ℕ) → Fits v → 10 ≤ v → length (decimal v) ≡ length (decimal (v / 10)) + 1
length_more v f h = ap length (decimal_more v f h) ∙ length-append (decimal (v / 10)) ((48 + v % 10) ∷ [])

pub length_one : (v : ℕ) → v < 10 → length (decimal v) ≡ 1
length_one v h = ap length (decimal_one v h)

pub length_some : (v : ℕ) → Fits v → 0 < length (decimal v)
length_some = by_tenths (λ v. Fits v → 0 < length (decimal v)) (λ v h f. omega (arith, length_one v h)) (λ v h i f. omega (arith, length_more v f h))

pub count_decimal : (v : ℕ) → Fits v → (rest : List ℕ) → digit_count (decimal v ++ rest) ≡ length (decimal v) + digit_count rest
count_decimal = by_tenths (λ v. Fits v → (rest : List ℕ) → digit_count (decimal v ++ rest) ≡ length (decimal v) + digit_count rest) one more
  where
    one : (v : ℕ) → v < 10 → Fits v → (rest : List ℕ) → digit_count (decimal v ++ rest) ≡ length (decimal v) + digit_count rest
    one v h f rest =
        let e = ap (λ (ds : List ℕ). digit_count (ds ++ rest)) (decimal_one v h) ∙ count_digit (48 + v) rest (is_digit_lem (48 + v) (omega arith) (omega arith)) in
        omega (arith, e, length_one v h)

    more : (v : ℕ) → 10 ≤ v → (Fits (v / 10) → (rest : List ℕ) → digit_count (decimal (v / 10) ++ rest) ≡ length (decimal (v / 10)) + digit_count rest)
        → Fits v → (rest : List ℕ) → digit_count (decimal v ++ rest) ≡ length (decimal v) + digit_count rest
    more v h i f rest =
        let d = 48 + v % 10 in
        let e = ap digit_count (front v rest f h) ∙ i (omega arith) (d ∷ rest) in
        let g = count_digit d rest (is_digit_lem d (omega arith) (omega arith)) in
        omega (arith, e, g, length_more v f h)

pub total_decimal : (v : ℕ) → Fits v → (rest : List ℕ) → total 0 (decimal v ++ rest) ≡ total v rest
total_decimal = by_tenths (λ v. Fits v → (rest : List ℕ) → total 0 (decimal v ++ rest) ≡ total v rest) one more
  where
    one : (v : ℕ) → v < 10 → Fits v → (rest : List ℕ) → total 0 (decimal v ++ rest) ≡ total v rest
    one v h f rest =
        ap (λ (ds : List ℕ). total 0 (ds ++ rest)) (decimal_one v h) ∙ total_digit 0 (48 + v) rest (is_digit_lem (48 + v) (omega arith) (omega arith))
        ∙ ap (λ (n : ℕ). total n rest) (omega arith)

    more : (v : ℕ) → 10 ≤ v → (Fits (v / 10) → (rest : List ℕ) → total 0 (decimal (v / 10) ++ rest) ≡ total (v / 10) rest)
        → Fits v → (rest : List ℕ) → total 0 (decimal v ++ rest) ≡ total v rest
    more v h i f rest =
        let d = 48 + v % 10 in
        ap (total 0) (front v rest f h) ∙ i (omega arith) (d ∷ rest) ∙ total_digit (v / 10) d rest (is_digit_lem d (omega arith) (omega arith))
        ∙ ap (λ (n : ℕ). total n rest) (omega arith)

-- no leading zero
pub lead_decimal : (v : ℕ) → Fits v → 0 < v → (rest : List ℕ) → get_or (decimal v ++ rest) 0 0 ≡ 48 → ⊥
lead_decimal = by_tenths (λ v. Fits v → 0 < v → (rest : List ℕ) → get_or (decimal v ++ rest) 0 0 ≡ 48 → ⊥) one more
  where
    one : (v : ℕ) → v < 10 → Fits v → 0 < v → (rest : List ℕ) → get_or (decimal v ++ rest) 0 0 ≡ 48 → ⊥
    one v h f p rest e =
        let g : get_or (decimal v ++ rest) 0 0 ≡ 48 + v = ap (λ (ds : List ℕ). get_or (ds ++ rest) 0 0) (decimal_one v h) in
        omega (arith, e, g)

    more : (v : ℕ) → 10 ≤ v → (Fits (v / 10) → 0 < v / 10 → (rest : List ℕ) → get_or (decimal (v / 10) ++ rest) 0 0 ≡ 48 → ⊥)
        → Fits v → 0 < v → (rest : List ℕ) → get_or (decimal v ++ rest) 0 0 ≡ 48 → ⊥
    more v h i f p rest e =
        i (omega arith) (omega arith) ((48 + v % 10) ∷ rest) (sym (ap (λ (ds : List ℕ). get_or ds 0 0) (front v rest f h)) ∙ e)

-- the number that a text begins with is one, and so is what stands after it
pub split : (v w : ℕ) (a b : List ℕ) → Fits v → Fits w → Stops a → Stops b → decimal v ++ a ≡ decimal w ++ b → (v ≡ w) × (a ≡ b)
split v w a b f g s t e =
    let same : v ≡ w = sym (total_decimal v f a ∙ total_stops v a s) ∙ ap (total 0) e ∙ total_decimal w g b ∙ total_stops w b t in
    (same, append_cancel_left (decimal v) a b (e ∙ ap (λ (n : ℕ). decimal n ++ b) (sym same)))

-- ---- from the digits to their number

extends : (v d : ℕ) → 0 < v → d < 10 → Fits (10 * v + d) → decimal (10 * v + d) ≡ decimal v ++ ((48 + d) ∷ [])
extends v d p h f =
    let q : (10 * v + d) / 10 ≡ v = omega arith in
    let r : (10 * v + d) % 10 ≡ d = omega arith in
    decimal_more (10 * v + d) f (omega arith) ∙ ap (λ (n : ℕ). decimal n ++ ((48 + (10 * v + d) % 10) ∷ [])) q
    ∙ ap (λ (n : ℕ). decimal v ++ ((48 + n) ∷ [])) r

-- the digits that are read after a number that is no zero
after : (v : ℕ) (bs : List ℕ) → 0 < v → Fits (total v bs) → decimal v ++ bs ≡ decimal (total v bs) ++ drop (digit_count bs) bs
after v [] p f =
    ap (λ (n : ℕ). decimal n ++ []) (sym (total_stops v [] tt)) ∙ ap (λ (ds : List ℕ). decimal (total v []) ++ ds) (sym (drop-nil (digit_count [])))
after v (b ∷ bs) p f = go (is_digit b) refl (λ w. after w bs)
  where
    go : (t : Bool) → is_digit b ≡ t → ((w : ℕ) → 0 < w → Fits (total w bs) → decimal w ++ bs ≡ decimal (total w bs) ++ drop (digit_count bs) bs)
        → decimal v ++ (b ∷ bs) ≡ decimal (total v (b ∷ bs)) ++ drop (digit_count (b ∷ bs)) (b ∷ bs)
    go true e i =
        let d = digit_is b e in
        let w = 10 * v + (b - 48) in
        let t : total v (b ∷ bs) ≡ total w bs = total_digit v b bs e in
        let fits : Fits (total w bs) = omega arith in
        let x : decimal w ≡ decimal v ++ ((48 + (b - 48)) ∷ []) = extends v (b - 48) p (omega arith) (omega (arith, total_least w bs)) in
        let z : 48 + (b - 48) ≡ b = omega arith in
        sym (append_assoc (decimal v) (b ∷ []) bs) ∙ ap (λ (n : ℕ). decimal v ++ (n ∷ []) ++ bs) (sym z) ∙ ap (λ (ds : List ℕ). ds ++ bs) (sym x)
        ∙ i w (omega arith) fits
        ∙ ap (λ (n : ℕ). decimal n ++ drop (digit_count bs) bs) (sym t)
        ∙ ap (λ (n : ℕ). decimal (total v (b ∷ bs)) ++ drop n (b ∷ bs)) (sym (count_digit b bs e))
    go false e i =
        ap (λ (n : ℕ). decimal n ++ (b ∷ bs)) (sym (total_stops v (b ∷ bs) e))
        ∙ ap (λ (n : ℕ). decimal (total v (b ∷ bs)) ++ drop n (b ∷ bs)) (sym (count_stops (b ∷ bs) e))

-- digits without a leading zero
pub says : (bs : List ℕ) → 0 < digit_count bs → (get_or bs 0 0 ≡ 48 → digit_count bs ≤ 1) → Fits (total 0 bs)
    → bs ≡ decimal (total 0 bs) ++ drop (digit_count bs) bs
says [] p z f = absurd (omega (arith, count_stops [] tt))
says (b ∷ bs) p z f = go (is_digit b) refl
  where
    go : (t : Bool) → is_digit b ≡ t → b ∷ bs ≡ decimal (total 0 (b ∷ bs)) ++ drop (digit_count (b ∷ bs)) (b ∷ bs)
    go false e = absurd (omega (arith, count_stops (b ∷ bs) e))
    go true e = by_zero (eqb b 48) refl
      where
        d : (48 ≤ b) × (b ≤ 57)
        d = digit_is b e

        t : total 0 (b ∷ bs) ≡ total (b - 48) bs
        t = total_digit 0 b bs e ∙ ap (λ (n : ℕ). total n bs) (omega arith)

        n : digit_count (b ∷ bs) ≡ suc (digit_count bs)
        n = count_digit b bs e

        back : b ∷ bs ≡ decimal (total (b - 48) bs) ++ drop (digit_count bs) bs → b ∷ bs ≡ decimal (total 0 (b ∷ bs)) ++ drop (digit_count (b ∷ bs)) (b ∷ bs)
        back h = h ∙ ap (λ (m : ℕ). decimal m ++ drop (digit_count bs) bs) (sym t) ∙ ap (λ (m : ℕ). decimal (total 0 (b ∷ bs)) ++ drop m (b ∷ bs)) (sym n)

        single : b ∷ bs ≡ decimal (b - 48) ++ bs
        single =
            let x : decimal (b - 48) ≡ (48 + (b - 48)) ∷ [] = decimal_one (b - 48) (omega (arith, d)) in
            let y : b ≡ 48 + (b - 48) = omega (arith, d) in
            ap (λ (m : ℕ). m ∷ bs) y ∙ ap (λ (ds : List ℕ). ds ++ bs) (sym x)

        by_zero : (u : Bool) → eqb b 48 ≡ u → b ∷ bs ≡ decimal (total 0 (b ∷ bs)) ++ drop (digit_count (b ∷ bs)) (b ∷ bs)
        by_zero true u =
            let none : digit_count bs ≡ 0 = omega (arith, z (eqb-true b 48 u), n) in
            back (single ∙ ap (λ (m : ℕ). decimal m ++ bs) (sym (total_stops (b - 48) bs (stops_count bs none)))
            ∙ ap (λ (m : ℕ). decimal (total (b - 48) bs) ++ drop m bs) (sym none))
        by_zero false u = back (single ∙ after (b - 48) bs (let ne = eqb-false b 48 u in omega (arith, d, ne)) (omega (arith, t, f)))
