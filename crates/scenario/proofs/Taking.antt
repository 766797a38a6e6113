-- A line is taken as the order whose line it is, and refused where it is the line of none: its word says which orders are left.
use mathlib.Core.Path.{◌≡◌, sym, ap, ◌∙◌}
use mathlib.Core.List.{List, [], ◌∷◌, ◌++◌}
use Prim.Native.Nat.{ℕ}
use native.Mathlib.Omega.{arith}
use lib.ListN.{get_or, drop}
use Rattle.std.specs.Prelude.{Option, None, Some, Result, Ok, Err}
use Rattle.std.specs.Option.{ok_or}
use Rattle.std.proofs.lemmas.Option.{none-some, same_Some}
use Rattle.refusal.specs.declared.Refusal.{Refusal}
use Rattle.refusal.specs.declared.Refusal.TheVariants.{Command}
use Rattle.text_reading.specs.declared.Number.{Number}
use Rattle.text_reading.specs.Promises.{Lasts}
use Rattle.text_reading.proofs.Chains.{tail, one_tail, end, with_last}
use Rattle.scenario.specs.declared.Order.{Order}
use Rattle.scenario.specs.declared.Order.TheVariants.{Days, Read, Level}
use Rattle.scenario.specs.Orders.{days_word, read_word, level_word, order_line, FitsOrder}
use Rattle.scenario.specs.Promises.{ReadsOrder}
use Rattle.scenario.specs.Steps.{FindsOrder}
use Rattle.scenario.proofs.Forms.{word_of, numbers_of, order_line_lem, first_of, first, one_order}

module _ (xs : List ℕ) where
  takes : (o : Order) → FitsOrder o → xs ≡ order_line o → FindsOrder xs (Some o)
  takes o f e =
      record {
        accepts = λ d g q. ap Some (one_order o d f g (sym e ∙ q));
        accepted = λ d q. let h : o ≡ d = same_Some o d q in rw (← h) ((e, f));
      }

  refuses : ((o : Order) → FitsOrder o → xs ≡ order_line o → ⊥) → FindsOrder xs None
  refuses h = record { accepts = λ o f e. absurd (h o f e); accepted = λ o q. absurd (none-some o q) }

  -- the word, and the numbers after it
  pub takes_numbers : (o : Order) (at : ℕ) → FitsOrder o → xs ≡ word_of o ++ drop at xs → drop at xs ≡ tail (numbers_of o) → FindsOrder xs (Some o)
  takes_numbers o at f w e = takes o f (w ∙ ap (λ (l : List ℕ). word_of o ++ l) e ∙ sym (order_line_lem o))

  -- ---- by the word

  by_first : (byte : ℕ) → get_or xs 0 0 ≡ byte → ((o : Order) → FitsOrder o → xs ≡ word_of o ++ tail (numbers_of o) → byte ≡ first_of o → ⊥)
      → FindsOrder xs None
  by_first byte b h = refuses (λ o f e. h o f (e ∙ order_line_lem o) (sym b ∙ ap (λ (l : List ℕ). get_or l 0 0) e ∙ first o))

  pub refuses_days : xs ≡ days_word ++ drop 4 xs → ((d : ℕ) → FitsOrder (Days d) → drop 4 xs ≡ tail (d ∷ []) → ⊥) → FindsOrder xs None
  refuses_days w h = by_first 100 (ap (λ (l : List ℕ). get_or l 0 0) w) no
    where
      no : (o : Order) → FitsOrder o → xs ≡ word_of o ++ tail (numbers_of o) → 100 ≡ first_of o → ⊥
      no (Days d) f e z = h d f (ap (drop 4) e)
      no (Read s t) f e z = omega arith
      no (Level s t m) f e z = omega arith

  -- a number of days that is out of range
  pub other_days : xs ≡ days_word ++ drop 4 xs → {r : Option Number} → Lasts (32 ∷ []) xs 4 r → {n : Number} → r ≡ Some n → (FitsOrder (Days n.value) → ⊥)
      → FindsOrder xs None
  other_days w l {n} e h = refuses_days w no
    where
      no : (d : ℕ) → FitsOrder (Days d) → drop 4 xs ≡ tail (d ∷ []) → ⊥
      no d f q =
          let z = one_tail (n.value ∷ []) (d ∷ []) (((l.found n e).0, tt)) ((omega arith, tt)) (sym (with_last xs end l e) ∙ q) in
          let same : n.value ≡ d = cc in
          h ((omega arith, omega arith))

  pub refuses_read : xs ≡ read_word ++ drop 4 xs → ((s t : ℕ) → FitsOrder (Read s t) → drop 4 xs ≡ tail (s ∷ t ∷ []) → ⊥) → FindsOrder xs None
  refuses_read w h = by_first 114 (ap (λ (l : List ℕ). get_or l 0 0) w) no
    where
      no : (o : Order) → FitsOrder o → xs ≡ word_of o ++ tail (numbers_of o) → 114 ≡ first_of o → ⊥
      no (Days d) f e z = omega arith
      no (Read s t) f e z = h s t f (ap (drop 4) e)
      no (Level s t m) f e z = omega arith

  pub refuses_level : xs ≡ level_word ++ drop 5 xs → ((s t m : ℕ) → FitsOrder (Level s t m) → drop 5 xs ≡ tail (s ∷ t ∷ m ∷ []) → ⊥)
      → FindsOrder xs None
  refuses_level w h = by_first 108 (ap (λ (l : List ℕ). get_or l 0 0) w) no
    where
      no : (o : Order) → FitsOrder o → xs ≡ word_of o ++ tail (numbers_of o) → 108 ≡ first_of o → ⊥
      no (Days d) f e z = omega arith
      no (Read s t) f e z = omega arith
      no (Level s t m) f e z = h s t m f (ap (drop 5) e)

  -- none of the words
  pub refuses_words : ((rest : List ℕ) → xs ≡ days_word ++ rest → ⊥) → ((rest : List ℕ) → xs ≡ read_word ++ rest → ⊥)
      → ((rest : List ℕ) → xs ≡ level_word ++ rest → ⊥) → FindsOrder xs None
  refuses_words d r l = refuses (λ o f e. no o (e ∙ order_line_lem o))
    where
      no : (o : Order) → xs ≡ word_of o ++ tail (numbers_of o) → ⊥
      no (Days n) e = d (tail (n ∷ [])) e
      no (Read s t) e = r (tail (s ∷ t ∷ [])) e
      no (Level s t m) e = l (tail (s ∷ t ∷ m ∷ [])) e

  -- ---- with its refusal

  pub reads : (r : Option Order) (q : Result Order Refusal) → FindsOrder xs r → q ≡ ok_or r Command → ReadsOrder xs q
  reads None q f e =
      record {
        accepts = λ o g h. absurd (none-some o (f.accepts o g h));
        accepted = λ o h. let z : Err Command ≡ Ok o = sym e ∙ h in cc;
        refused = λ n h. let z : Err Command ≡ Err n = sym e ∙ h in cc;
      }
  reads (Some d) q f e =
      record {
        accepts = λ o g h. e ∙ ap Ok (same_Some d o (f.accepts o g h));
        accepted = λ o h. f.accepted o (let z : Ok d ≡ Ok o = sym e ∙ h in cc);
        refused = λ n h. let z : Ok d ≡ Err n = sym e ∙ h in cc;
      }
