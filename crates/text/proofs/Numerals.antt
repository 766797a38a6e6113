-- Counting the digits of a text, and adding them up, step by step.
use mathlib.Core.Path.{◌≡◌, refl, sym, ap, ◌∙◌}
use mathlib.Core.Bool.{Bool, true, false, cond}
use mathlib.Core.List.{List, [], ◌∷◌}
use Prim.Native.Nat.{ℕ, suc, ◌+◌, ◌-◌, ◌*◌, ◌<◌, ◌≤◌}
use native.Mathlib.Omega.{arith}
use native.Mathlib.Numerals.{add-one}
use lib.Dec.{leb, ltb}
use lib.ListN.{length, get_or, take, drop, drop_of_length-le}
use lib.Seq.{drop-cons}
use borrow.Author.Tests.{le-leb, leb-true, ltb-true, ltb-false}
use Rattle.std.specs.List.{prefix_len}
use Rattle.line.proofs.Fits.{and_true}
use Rattle.text.specs.Decimal.{is_digit, Stops}
use Rattle.text.specs.Numeral.{digit_count, total}

pub is_digit_lem : (b : ℕ) → 48 ≤ b → b ≤ 57 → is_digit b ≡ true
is_digit_lem b l m = rw (le-leb 48 b l, le-leb b 57 m)

pub digit_is : (b : ℕ) → is_digit b ≡ true → (48 ≤ b) × (b ≤ 57)
digit_is b e = let a = and_true (leb 48 b) (leb b 57) e in (leb-true 48 b a.0, leb-true b 57 a.1)

-- ---- at the front of a text

pub count_digit : (b : ℕ) (bs : List ℕ) → is_digit b ≡ true → digit_count (b ∷ bs) ≡ suc (digit_count bs)
unfolding digit_count
count_digit b bs e = ap (λ (t : Bool). cond t (suc (digit_count bs)) 0) e

pub total_digit : (v b : ℕ) (bs : List ℕ) → is_digit b ≡ true → total v (b ∷ bs) ≡ total (10 * v + (b - 48)) bs
unfolding total
total_digit v b bs e = ap (λ (t : Bool). cond t (total (10 * v + (b - 48)) bs) v) e

pub count_stops : (bs : List ℕ) → Stops bs → digit_count bs ≡ 0
unfolding digit_count
count_stops [] s = refl
count_stops (b ∷ bs) s = ap (λ (t : Bool). cond t (suc (digit_count bs)) 0) s

pub total_stops : (v : ℕ) (bs : List ℕ) → Stops bs → total v bs ≡ v
unfolding total
total_stops v [] s = refl
total_stops v (b ∷ bs) s = ap (λ (t : Bool). cond t (total (10 * v + (b - 48)) bs) v) s

-- without digits, a text stops
pub stops_count : (bs : List ℕ) → digit_count bs ≡ 0 → Stops bs
unfolding digit_count
stops_count [] e = tt
stops_count (b ∷ bs) e = go (is_digit b) e
  where
    go : (t : Bool) → cond t (suc (digit_count bs)) 0 ≡ 0 → t ≡ false
    go true h = absurd (omega arith)
    go false h = refl

pub count_within : (bs : List ℕ) → digit_count bs ≤ length bs
unfolding digit_count
count_within [] = omega arith
count_within (b ∷ bs) = go (count_within bs) (is_digit b)
  where
    go : digit_count bs ≤ length bs → (t : Bool) → cond t (suc (digit_count bs)) 0 ≤ suc (length bs)
    go i true = omega arith
    go i false = omega arith

pub total_least : (v : ℕ) (bs : List ℕ) → v ≤ total v bs
unfolding total
total_least v [] = omega arith
total_least v (b ∷ bs) = go (total_least (10 * v + (b - 48)) bs) (is_digit b)
  where
    go : 10 * v + (b - 48) ≤ total (10 * v + (b - 48)) bs → (t : Bool) → v ≤ cond t (total (10 * v + (b - 48)) bs) v
    go i true = omega arith
    go i false = omega arith

-- the digits are the longest front whose bytes are digits
pub count_front : (bs : List ℕ) → prefix_len is_digit bs ≡ digit_count bs
unfolding digit_count
count_front [] = refl
count_front (b ∷ bs) = ap (λ (n : ℕ). cond (is_digit b) n 0) (omega (arith, count_front bs))

-- all bytes of that front are digits
pub digits_alone : (bs : List ℕ) → digit_count (take (digit_count bs) bs) ≡ length (take (digit_count bs) bs)
unfolding digit_count
digits_alone [] = refl
digits_alone (b ∷ bs) = go (digit_count bs) (is_digit b) refl (digits_alone bs)
  where
    go : (k : ℕ) (t : Bool) → is_digit b ≡ t → digit_count (take k bs) ≡ length (take k bs)
        → digit_count (take (cond t (suc k) 0) (b ∷ bs)) ≡ length (take (cond t (suc k) 0) (b ∷ bs))
    go k true e i = count_digit b (take k bs) e ∙ ap (λ (n : ℕ). suc n) i
    go k false e i = refl

-- it says what the whole text says
pub total_alone : (v : ℕ) (bs : List ℕ) → total v (take (digit_count bs) bs) ≡ total v bs
unfolding digit_count total
total_alone v [] = refl
total_alone v (b ∷ bs) = go (digit_count bs) (is_digit b) refl (total_alone (10 * v + (b - 48)) bs)
  where
    go : (k : ℕ) (t : Bool) → is_digit b ≡ t → total (10 * v + (b - 48)) (take k bs) ≡ total (10 * v + (b - 48)) bs
        → total v (take (cond t (suc k) 0) (b ∷ bs)) ≡ cond t (total (10 * v + (b - 48)) bs) v
    go k true e i = total_digit v b (take k bs) e ∙ i
    go k false e i = refl

-- ---- at byte i of a text

-- a digit
pub record Digit (xs : List ℕ) (i : ℕ) : Type 0 where
  pub within : i < length xs
  pub least : 48 ≤ get_or xs i 0
  pub most : get_or xs i 0 ≤ 57

pub at_digit : (xs : List ℕ) (i : ℕ) → Digit xs i → digit_count (drop i xs) ≡ suc (digit_count (drop (i + 1) xs))
at_digit xs i d =
    ap digit_count (drop-cons xs i 0 d.within) ∙ count_digit _ _ (is_digit_lem (get_or xs i 0) d.least d.most)
    ∙ ap (λ (m : ℕ). suc (digit_count (drop m xs))) (sym (add-one i))

pub sum_digit : (xs : List ℕ) (i v : ℕ) → Digit xs i → total v (drop i xs) ≡ total (10 * v + (get_or xs i 0 - 48)) (drop (i + 1) xs)
sum_digit xs i v d =
    ap (total v) (drop-cons xs i 0 d.within) ∙ total_digit v _ _ (is_digit_lem (get_or xs i 0) d.least d.most)
    ∙ ap (λ (m : ℕ). total (10 * v + (get_or xs i 0 - 48)) (drop m xs)) (sym (add-one i))

pub at_other : (xs : List ℕ) (i : ℕ) → i < length xs → is_digit (get_or xs i 0) ≡ false → digit_count (drop i xs) ≡ 0
at_other xs i l e = ap digit_count (drop-cons xs i 0 l) ∙ count_stops (get_or xs i 0 ∷ drop (suc i) xs) e

pub at_end : (xs : List ℕ) (i : ℕ) → length xs ≤ i → digit_count (drop i xs) ≡ 0
at_end xs i l = ap digit_count (drop_of_length-le xs l) ∙ count_stops [] tt

pub digit_at : (xs : List ℕ) (i : ℕ) → 0 < digit_count (drop i xs) → Digit xs i
digit_at xs i h = by_length (ltb i (length xs)) refl
  where
    by_test : i < length xs → (t : Bool) → is_digit (get_or xs i 0) ≡ t → Digit xs i
    by_test l true t = let a = digit_is (get_or xs i 0) t in record { within = l; least = a.0; most = a.1 }
    by_test l false t = absurd (omega (arith, at_other xs i l t))

    by_length : (t : Bool) → ltb i (length xs) ≡ t → Digit xs i
    by_length true t = by_test (ltb-true i (length xs) t) (is_digit (get_or xs i 0)) refl
    by_length false t = absurd (omega (arith, at_end xs i (ltb-false i (length xs) t)))
