-- The three forms of an order's line: the first byte says which form a line has, and its numbers are those of one order.
use mathlib.Core.Path.{◌≡◌, refl, sym, ap, ◌∙◌}
use mathlib.Core.List.{List, [], ◌∷◌, ◌++◌}
use Prim.Native.Nat.{ℕ}
use native.Mathlib.Omega.{arith}
use lib.ListN.{get_or, drop}
use Rattle.line.specs.Order.{All}
use Rattle.text.specs.Decimal.{Fits}
use Rattle.text_reading.proofs.Chains.{tail, spaced_tail, one_tail}
use Rattle.scenario.specs.declared.Order.{Order}
use Rattle.scenario.specs.declared.Order.TheVariants.{Days, Read, Level}
use Rattle.scenario.specs.Orders.{days_word, read_word, level_word, order_line, FitsOrder}

-- ---- the word and the numbers

abbrev pub word_of : Order → List ℕ
word_of (Days d) = days_word
word_of (Read s t) = read_word
word_of (Level s t m) = level_word

abbrev pub numbers_of : Order → List ℕ
numbers_of (Days d) = d ∷ []
numbers_of (Read s t) = s ∷ t ∷ []
numbers_of (Level s t m) = s ∷ t ∷ m ∷ []

pub order_line_lem : (o : Order) → order_line o ≡ word_of o ++ tail (numbers_of o)
unfolding order_line
order_line_lem (Days d) = spaced_tail days_word (d ∷ [])
order_line_lem (Read s t) = spaced_tail read_word (s ∷ t ∷ [])
order_line_lem (Level s t m) = spaced_tail level_word (s ∷ t ∷ m ∷ [])

pub numbers_fit : (o : Order) → FitsOrder o → All Fits (numbers_of o)
numbers_fit (Days d) f = (omega arith, tt)
numbers_fit (Read s t) f = (f.0, (f.1, tt))
numbers_fit (Level s t m) f = (f.0, (f.1, (f.2, tt)))

-- ---- the first byte

abbrev pub first_of : Order → ℕ
first_of (Days d) = 100
first_of (Read s t) = 114
first_of (Level s t m) = 108

pub first : (o : Order) → get_or (order_line o) 0 0 ≡ first_of o
first o = ap (λ (l : List ℕ). get_or l 0 0) (order_line_lem o) ∙ by_form o
  where
    by_form : (o : Order) → get_or (word_of o ++ tail (numbers_of o)) 0 0 ≡ first_of o
    by_form (Days d) = refl
    by_form (Read s t) = refl
    by_form (Level s t m) = refl

-- the numbers of two lines of one form
same : (a b : Order) → All Fits (numbers_of a) → All Fits (numbers_of b) → word_of a ++ tail (numbers_of a) ≡ word_of b ++ tail (numbers_of b) → first_of a ≡ first_of b
    → a ≡ b
same (Days d) (Days d') f g e z = let h = one_tail (d ∷ []) (d' ∷ []) f g (ap (drop 4) e) in cc
same (Read s t) (Read s' t') f g e z = let h = one_tail (s ∷ t ∷ []) (s' ∷ t' ∷ []) f g (ap (drop 4) e) in cc
same (Level s t m) (Level s' t' m') f g e z = let h = one_tail (s ∷ t ∷ m ∷ []) (s' ∷ t' ∷ m' ∷ []) f g (ap (drop 5) e) in cc
same (Days d) (Read s' t') f g e z = absurd (omega arith)
same (Days d) (Level s' t' m') f g e z = absurd (omega arith)
same (Read s t) (Days d') f g e z = absurd (omega arith)
same (Read s t) (Level s' t' m') f g e z = absurd (omega arith)
same (Level s t m) (Days d') f g e z = absurd (omega arith)
same (Level s t m) (Read s' t') f g e z = absurd (omega arith)

-- two orders with one line are equal
pub one_order : (a b : Order) → FitsOrder a → FitsOrder b → order_line a ≡ order_line b → a ≡ b
one_order a b f g e =
    same a b (numbers_fit a f) (numbers_fit b g) (sym (order_line_lem a) ∙ e ∙ order_line_lem b) (sym (first a) ∙ ap (λ (l : List ℕ). get_or l 0 0) e ∙ first b)
