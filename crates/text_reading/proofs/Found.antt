-- The number at a place is read where it stands, and only there.
use mathlib.Core.Path.{◌≡◌, refl, sym, ap, ◌∙◌}
use mathlib.Core.Bool.{Bool, true, false}
use mathlib.Core.List.{List, [], ◌∷◌, ◌++◌, append-nil}
use Prim.Native.Nat.{ℕ, ◌+◌, ◌-◌, ◌<◌, ◌≤◌}
use native.Mathlib.Omega.{arith}
use native.Mathlib.Numerals.{add-one}
use lib.Dec.{eqb}
use lib.ListN.{length, get_or, drop, length-append, length-drop, drop_of_length-le}
use lib.Seq.{drop-drop, drop-cons, get_or-drop, drop-length}
use borrow.Author.Tests.{eqb-true, eqb-false}
use Rattle.std.specs.Prelude.{Option, None, Some, MatchOption}
use Rattle.std.specs.Bool.{then_some}
use Rattle.std.proofs.Common.{subst}
use Rattle.std.proofs.lemmas.Option.{none-some, same_Some}
use Rattle.text_reading.specs.declared.Number.{Number}
use Rattle.text.specs.Decimal.{decimal, Fits, Stops}
use Rattle.text.specs.Numeral.{digit_count, total}
use Rattle.text_reading.specs.Promises.{Numbers, Lasts}
use Rattle.text.proofs.Numerals.{count_stops, total_stops, count_within}
use Rattle.text.proofs.Reading.{length_one, length_some, count_decimal, total_decimal, lead_decimal, says}

abbrev pub number : ℕ → ℕ → Option Number
number v next = Some (record { value = v; end = next })

pub none : (lead xs : List ℕ) (at : ℕ)
    → ((v : ℕ) (rest : List ℕ) → Fits v → drop at xs ≡ lead ++ (decimal v ++ rest) → Stops rest → ⊥) → Numbers lead xs at None
none lead xs at h =
    record {
      found = λ n e. absurd (none-some n e);
      finds = λ v rest f e s. absurd (h v rest f e s);
    }

-- ---- at a place

module _ (xs : List ℕ) (at n : ℕ) (counted : n ≡ digit_count (drop at xs)) where
  -- a number that stands there has all the digits there, and their total
  long : (v : ℕ) (rest : List ℕ) → Fits v → drop at xs ≡ decimal v ++ rest → Stops rest → n ≡ length (decimal v)
  long v rest f e s = omega (arith, counted, ap digit_count e, count_decimal v f rest, count_stops rest s)

  worth : (v : ℕ) (rest : List ℕ) → Fits v → drop at xs ≡ decimal v ++ rest → Stops rest → total 0 (drop at xs) ≡ v
  worth v rest f e s = ap (total 0) e ∙ total_decimal v f rest ∙ total_stops v rest s

  pub none_here : n ≡ 0 → Numbers [] xs at None
  none_here z = none [] xs at (λ v rest f e s. omega (arith, long v rest f e s, length_some v f))

  pub none_zero : get_or xs at 0 ≡ 48 → 1 < n → Numbers [] xs at None
  none_zero z m = none [] xs at no
    where
      no : (v : ℕ) (rest : List ℕ) → Fits v → drop at xs ≡ decimal v ++ rest → Stops rest → ⊥
      no v rest f e s = go (eqb v 0) refl
        where
          go : (t : Bool) → eqb v 0 ≡ t → ⊥
          go true t = let o = eqb-true v 0 t in omega (arith, long v rest f e s, length_one v (omega arith), m)
          go false t =
              let o = eqb-false v 0 t in
              lead_decimal v f (omega arith) rest
              (ap (λ (l : List ℕ). get_or l 0 0) (sym e) ∙ get_or-drop at xs 0 0 ∙ ap (λ (i : ℕ). get_or xs i 0) (omega arith) ∙ z)

  pub none_over : 18446744073709551615 < total 0 (drop at xs) → Numbers [] xs at None
  none_over o = none [] xs at (λ v rest f e s. omega (arith, worth v rest f e s, o, f))

  pub some : 0 < n → (get_or xs at 0 ≡ 48 → n ≤ 1) → (v : ℕ) → v ≡ total 0 (drop at xs) → v ≤ 18446744073709551615
      → Numbers [] xs at (number v (at + n))
  some p z v e l = record { found = λ m q. found m q; finds = λ w rest f q s. finds w rest f q s }
    where
      text : drop at xs ≡ decimal v ++ drop (at + n) xs
      text =
          says (drop at xs) (omega (arith, p, counted))
          (λ h. let g = z (ap (λ (i : ℕ). get_or xs i 0) (omega arith) ∙ sym (get_or-drop at xs 0 0) ∙ h) in omega (arith, g, counted)) (omega (arith, e, l))
          ∙ ap (λ (m : ℕ). decimal m ++ drop (digit_count (drop at xs)) (drop at xs)) (sym e)
          ∙ ap (λ (m : ℕ). decimal v ++ drop m (drop at xs)) (sym counted)
          ∙ ap (λ (l : List ℕ). decimal v ++ l) (drop-drop n at xs)

      within : at + n ≤ length xs
      within = omega (arith, p, counted, count_within (drop at xs), length-drop at xs)

      found : (m : Number) → number v (at + n) ≡ Some m → Fits m.value × (drop at xs ≡ decimal m.value ++ drop m.end xs) × (m.end ≤ length xs)
      found m q =
          subst (λ (m : Number). Fits m.value × (drop at xs ≡ decimal m.value ++ drop m.end xs) × (m.end ≤ length xs)) (same_Some _ m q) (omega (arith, l), text, within)

      finds : (w : ℕ) (rest : List ℕ) → Fits w → drop at xs ≡ decimal w ++ rest → Stops rest → number v (at + n) ≡ number w (at + 0 + length (decimal w))
      finds w rest f q s =
          let a : v ≡ w = e ∙ worth w rest f q s in
          let b : at + n ≡ at + 0 + length (decimal w) = omega (arith, long w rest f q s) in
          ap (λ (u : ℕ). number u (at + n)) a ∙ ap (λ (u : ℕ). number w u) b

-- ---- after one space

module _ (xs : List ℕ) (at : ℕ) where
  pub spaced : at < length xs → get_or xs at 0 ≡ 32 → (r : Option Number) → Numbers [] xs (at + 1) r → Numbers (32 ∷ []) xs at r
  spaced l e r n = record { found = λ n q. found n q; finds = λ v rest f q s. finds v rest f q s }
    where
      text : drop at xs ≡ 32 ∷ drop (at + 1) xs
      text = drop-cons xs at 0 l ∙ ap (λ (m : ℕ). get_or xs at 0 ∷ drop m xs) (sym (add-one at)) ∙ ap (λ (b : ℕ). b ∷ drop (at + 1) xs) e

      found : (m : Number) → r ≡ Some m → Fits m.value × (drop at xs ≡ 32 ∷ (decimal m.value ++ drop m.end xs)) × (m.end ≤ length xs)
      found m q = let h = n.found m q in (h.0, text ∙ ap (λ (t : List ℕ). 32 ∷ t) h.1, h.2)

      finds : (v : ℕ) (rest : List ℕ) → Fits v → drop at xs ≡ 32 ∷ (decimal v ++ rest) → Stops rest → r ≡ number v (at + 1 + length (decimal v))
      finds v rest f q s =
          let h : drop (at + 1) xs ≡ decimal v ++ rest = ap (λ (t : List ℕ). drop 1 t) (sym text ∙ q) in
          n.finds v rest f h s ∙ ap (λ (m : ℕ). number v m) (omega arith)

  pub none_past : length xs ≤ at → Numbers (32 ∷ []) xs at None
  none_past l =
      none (32 ∷ []) xs at
      (λ v rest f e s. let h : ◌≡◌ {A = ℕ} 0 32 = ap (λ (t : List ℕ). get_or t 0 0) (sym (drop_of_length-le xs l) ∙ e) in omega arith)

  pub none_unspaced : (get_or xs at 0 ≡ 32 → ⊥) → Numbers (32 ∷ []) xs at None
  none_unspaced d =
      none (32 ∷ []) xs at
      (λ v rest f e s. d (ap (λ (i : ℕ). get_or xs i 0) (omega arith) ∙ sym (get_or-drop at xs 0 0) ∙ ap (λ (t : List ℕ). get_or t 0 0) e))

-- ---- where nothing stands after it

module _ (lead xs : List ℕ) (at : ℕ) (r : Option Number) (n : Numbers lead xs at r) where
  pub last_some : (m : Number) → r ≡ Some m → m.end ≡ length xs → Lasts lead xs at (Some m)
  last_some m e z =
      let h = n.found m e in
      let end : drop m.end xs ≡ [] = ap (λ (k : ℕ). drop k xs) z ∙ drop-length xs in
      let text : drop at xs ≡ lead ++ decimal m.value =
      h.1 ∙ ap (λ (t : List ℕ). lead ++ (decimal m.value ++ t)) end ∙ ap (λ (t : List ℕ). lead ++ t) (append-nil (decimal m.value)) in
      record {
        found = λ w q. subst (λ (w : Number). Fits w.value × (drop at xs ≡ lead ++ decimal w.value)) (same_Some m w q) (h.0, text);
        absent = λ q. absurd (none-some m (sym q));
      }

  -- what the search says of a number that stands there to the end
  sole : (v : ℕ) → Fits v → drop at xs ≡ lead ++ decimal v → r ≡ number v (length xs)
  sole v f e =
      let size : length xs - at ≡ length lead + length (decimal v) = sym (length-drop at xs) ∙ ap length e ∙ length-append lead (decimal v) in
      n.finds v [] f (e ∙ ap (λ (t : List ℕ). lead ++ t) (sym (append-nil (decimal v)))) tt
      ∙ ap (λ (m : ℕ). number v m) (omega (arith, size, length_some v f))

  none_last : ((v : ℕ) → r ≡ number v (length xs) → ⊥) → Lasts lead xs at None
  none_last h = record { found = λ w e. absurd (none-some w e); absent = λ q v f e. h v (sole v f e) }

  pub last_none : r ≡ None → Lasts lead xs at None
  last_none a = none_last (λ v e. none-some _ (sym a ∙ e))

  pub last_more : (m : Number) → r ≡ Some m → (m.end ≡ length xs → ⊥) → Lasts lead xs at None
  last_more m a h = none_last (λ v e. h (ap (λ (k : Number). k.end) (same_Some _ _ (sym a ∙ e))))

-- of a number that was found, what a test of its end lets through
pub tested : (lead xs : List ℕ) (at : ℕ) (r q : Option Number) (R : Number → Bool → Type 0) → ((n : Number) (b : Bool) → R n b → b ≡ eqb n.end (length xs))
    → Numbers lead xs at r → MatchOption r (q ≡ None) (λ n. (b : Bool) × R n b × (q ≡ then_some b n)) → Lasts lead xs at q
tested lead xs at None q R told n h = subst (λ (o : Option Number). Lasts lead xs at o) (sym h) (last_none lead xs at None n refl)
tested lead xs at (Some m) q R told n h = subst (λ (o : Option Number). Lasts lead xs at o) (sym h.2) (go h.0 (told m h.0 h.1))
  where
    go : (b : Bool) → b ≡ eqb m.end (length xs) → Lasts lead xs at (then_some b m)
    go true e = last_some lead xs at (Some m) n m refl (eqb-true m.end (length xs) (sym e))
    go false e = last_more lead xs at (Some m) n m refl (eqb-false m.end (length xs) (sym e))
