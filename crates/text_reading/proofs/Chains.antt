-- Numbers that were read one after the other, each after one space: a line with as many numbers there has these, and where the next is absent, no line has one.
use mathlib.Core.Path.{◌≡◌, refl, sym, ap, ◌∙◌}
use mathlib.Core.List.{List, [], ◌∷◌, ◌++◌, append_assoc, append-nil, append_cancel_left}
use Prim.Native.Nat.{ℕ, ◌-◌, ◌≤◌}
use native.Mathlib.Omega.{arith}
use lib.ListN.{length, drop, length-drop}
use lib.Seq.{drop-length}
use Rattle.std.specs.Prelude.{Option, None, Some}
use Rattle.std.proofs.lemmas.Option.{none-some, same_Some}
use Rattle.line.specs.Order.{All}
use Rattle.text.specs.Decimal.{decimal, Fits, Stops}
use Rattle.text.specs.Spaced.{spaced}
use Rattle.text.proofs.Reading.{split}
use Rattle.text_reading.specs.declared.Number.{Number}
use Rattle.text_reading.specs.Promises.{Numbers, Lasts}

-- ---- the bytes after the word

unfoldable pub tail : List ℕ → List ℕ
tail [] = []
tail (n ∷ ns) = 32 ∷ (decimal n ++ tail ns)

pub spaced_tail : (word ns : List ℕ) → spaced word ns ≡ word ++ tail ns
unfolding spaced tail
spaced_tail word [] = sym (append-nil word)
spaced_tail word (n ∷ ns) = spaced_tail (word ++ (32 ∷ decimal n)) ns ∙ append_assoc word (32 ∷ decimal n) (tail ns)

stops : (ns : List ℕ) → Stops (tail ns)
unfolding tail
stops [] = tt
stops (n ∷ ns) = refl

-- its numbers are those of one list
pub one_tail : (ns ms : List ℕ) → All Fits ns → All Fits ms → tail ns ≡ tail ms → ns ≡ ms
unfolding tail
one_tail [] [] f g e = refl
one_tail [] (m ∷ ms) f g e = absurd (omega (arith, ap length e))
one_tail (n ∷ ns) [] f g e = absurd (omega (arith, ap length e))
one_tail (n ∷ ns) (m ∷ ms) f g e =
    let p = split n m (tail ns) (tail ms) f.0 g.0 (stops ns) (stops ms) (ap (drop 1) e) in
    let first = p.0 in
    let others = one_tail ns ms f.1 g.1 p.1 in
    cc

-- ---- one number that is looked for

module _ (xs : List ℕ) {at : ℕ} {r : Option Number} (n : Numbers (32 ∷ []) xs at r) where
  -- no number was read
  fails : r ≡ None → (v : ℕ) (rest : List ℕ) → Fits v → drop at xs ≡ 32 ∷ (decimal v ++ rest) → Stops rest → ⊥
  fails a v rest f e s = none-some _ (sym a ∙ n.finds v rest f e s)

  -- what stands after the number that was read
  goes : {m : Number} → r ≡ Some m → (v : ℕ) (rest : List ℕ) → Fits v → drop at xs ≡ 32 ∷ (decimal v ++ rest) → Stops rest → drop m.end xs ≡ rest
  goes {m} a v rest f e s =
      let same : m.value ≡ v = ap (λ (k : Number). k.value) (same_Some _ _ (sym a ∙ n.finds v rest f e s)) in
      let text : 32 ∷ (decimal m.value ++ drop m.end xs) ≡ 32 ∷ (decimal v ++ rest) = sym (n.found m a).1 ∙ e in
      append_cancel_left (decimal v) (drop m.end xs) rest (ap (λ (k : ℕ). decimal k ++ drop m.end xs) (sym same) ∙ ap (drop 1) text)

-- ---- the numbers that were read

-- from byte `at` on, to byte `next`
pub data Chain (xs : List ℕ) : ℕ → List ℕ → ℕ → Type 0 where
  end : {at : ℕ} → Chain xs at [] at
  more : {at last : ℕ} {n : Number} {ns : List ℕ} {r : Option Number} → Numbers (32 ∷ []) xs at r → r ≡ Some n → Chain xs n.end ns last
      → Chain xs at (n.value ∷ ns) last

module _ (xs : List ℕ) where
  pub chain_fits : {at last : ℕ} {ns : List ℕ} → Chain xs at ns last → All Fits ns
  chain_fits end = tt
  chain_fits (more n e c) = ((n.found _ e).0, chain_fits c)

  -- with the numbers that stand after them
  pub chain_text : {at last : ℕ} {ns : List ℕ} → Chain xs at ns last → (ms : List ℕ) → drop last xs ≡ tail ms → drop at xs ≡ tail (ns ++ ms)
  unfolding tail
  chain_text end ms q = q
  chain_text (more {n = m} n e c) ms q = (n.found _ e).1 ∙ ap (λ (l : List ℕ). 32 ∷ (decimal m.value ++ l)) (chain_text c ms q)

  -- in a line that has as many numbers, what stands after these stands after those
  pub follows : {at last : ℕ} {ns : List ℕ} → Chain xs at ns last → (ks ms : List ℕ) → length ks ≡ length ns → All Fits ks
      → drop at xs ≡ tail (ks ++ ms) → drop last xs ≡ tail ms
  unfolding tail
  follows end [] ms l f q = q
  follows end (k ∷ ks) ms l f q = absurd (omega arith)
  follows (more n e c) [] ms l f q = absurd (omega arith)
  follows (more n e c) (k ∷ ks) ms l f q = follows c ks ms (omega arith) f.1 (goes xs n e k (tail (ks ++ ms)) f.0 q (stops (ks ++ ms)))

  -- ---- the number after them

  module _ {at last : ℕ} {ns : List ℕ} (c : Chain xs at ns last) {r : Option Number} where
    pub no_next : Numbers (32 ∷ []) xs last r → r ≡ None → (ks : List ℕ) (k : ℕ) (ms : List ℕ) → length ks ≡ length ns → All Fits ks → Fits k
        → drop at xs ≡ tail (ks ++ (k ∷ ms)) → ⊥
    unfolding tail
    no_next n e ks k ms l f g q = fails xs n e k (tail ms) g (follows c ks (k ∷ ms) l f q) (stops ms)

    pub no_last : Lasts (32 ∷ []) xs last r → r ≡ None → (ks : List ℕ) (k : ℕ) → length ks ≡ length ns → All Fits ks → Fits k
        → drop at xs ≡ tail (ks ++ (k ∷ [])) → ⊥
    unfolding tail
    no_last n e ks k l f g q = n.absent e k g (follows c ks (k ∷ []) l f q ∙ ap (λ (l : List ℕ). 32 ∷ l) (append-nil (decimal k)))

    pub with_last : Lasts (32 ∷ []) xs last r → {m : Number} → r ≡ Some m → drop at xs ≡ tail (ns ++ (m.value ∷ []))
    unfolding tail
    with_last n {m} e = chain_text c (m.value ∷ []) ((n.found _ e).1 ∙ ap (λ (l : List ℕ). 32 ∷ l) (sym (append-nil (decimal m.value))))

  -- ---- the line's end after them

  module _ {at last : ℕ} {ns : List ℕ} (c : Chain xs at ns last) where
    pub no_end : last ≤ length xs → (last ≡ length xs → ⊥) → (ks : List ℕ) → length ks ≡ length ns → All Fits ks → drop at xs ≡ tail ks → ⊥
    unfolding tail
    no_end m h ks l f q =
        let rest = follows c ks [] l f (q ∙ ap tail (sym (append-nil ks))) in
        let z : length xs - last ≡ 0 = sym (length-drop last xs) ∙ ap length rest in
        h (omega (arith, z, m))

    pub with_end : last ≡ length xs → drop at xs ≡ tail ns
    unfolding tail
    with_end z = chain_text c [] (ap (λ (m : ℕ). drop m xs) z ∙ drop-length xs) ∙ ap tail (append-nil ns)
