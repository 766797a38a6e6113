-- Bitmap words above places: one place changed with the bit above it, and what a bit says of the place below it.
use mathlib.Core.Path.{◌≡◌, sym, ap, ◌∙◌}
use mathlib.Core.Logic.{◌⊎◌, inl, inr}
use Prim.Native.Nat.{ℕ, ◌+◌, ◌*◌, ◌/◌, ◌%◌, ◌<◌}
use native.Mathlib.Nat.{mod-lt, div-add-mod'}
use native.Mathlib.Omega.{arith}
use lib.Dec.{ltb}
use borrow.Author.Tests.{lt-ltb, le-ltb}
use Rattle.calendar_bitmap.specs.Child.{child}
use Rattle.calendar_bitmap.specs.Promises.{WithChild}
use Rattle.calendar_bitmap.proofs.ChildLaws.{child_zero}
use Rattle.calendar_cells.specs.Tree.{flag, Sums}
use Rattle.words.proofs.Cases.{eq_or}

-- ---- the flag of a number

pub flag_some : (x : ℕ) → (x ≡ 0 → ⊥) → flag x ≡ 1
flag_some x h = rw (lt-ltb 0 x (omega arith))

pub flag_one : (x : ℕ) → flag x ≡ 1 → x ≡ 0 → ⊥
flag_one x e z = let n : ◌≡◌ {A = ℕ} 1 0 = sym e ∙ rw (le-ltb 0 x (omega arith)) in omega arith

-- ---- one place changed

same_place : (a l k : ℕ) → l / a ≡ k / a → l % a ≡ k % a → l ≡ k
same_place a l k d m = sym (div-add-mod' l a) ∙ ap (λ (y : ℕ). y * a + l % a) d ∙ ap (λ (y : ℕ). k / a * a + y) m ∙ div-add-mod' k a

pub sums_set : (a n : ℕ) (up low up' low' : ℕ → ℕ) (k : ℕ) → 0 < a
    → WithChild a (up (k / a)) (k % a) (ltb 0 (low' k)) (up' (k / a)) → ((l : ℕ) → l < n → (l / a ≡ k / a → ⊥) → up' (l / a) ≡ up (l / a))
    → ((l : ℕ) → l < n → (l ≡ k → ⊥) → low' l ≡ low l) → Sums a n up low → Sums a n up' low'
sums_set a n up low up' low' k pa W ho hl S l h = go (eq_or (l / a) (k / a)) (eq_or (l % a) (k % a))
  where
    go : (l / a ≡ k / a) ⊎ (l / a ≡ k / a → ⊥) → (l % a ≡ k % a) ⊎ (l % a ≡ k % a → ⊥) → child a (up' (l / a)) (l % a) ≡ flag (low' l)
    go (inl e) (inl f) = rw (same_place a l k e f) W.this
    go (inl e) (inr f) =
        ap (λ (y : ℕ). child a (up' y) (l % a)) e ∙ W.others (l % a) (mod-lt l pa) f ∙ ap (λ (y : ℕ). child a (up y) (l % a)) (sym e)
        ∙ S l h ∙ ap flag (sym (hl l h (λ q. f (ap (λ (y : ℕ). y % a) q))))
    go (inr e) f =
        ap (λ (y : ℕ). child a y (l % a)) (ho l h e) ∙ S l h ∙ ap flag (sym (hl l h (λ q. e (ap (λ (y : ℕ). y / a) q))))

-- only the values count
pub sums_same : (a n : ℕ) (up low up' low' : ℕ → ℕ) → ((l : ℕ) → l < n → up' (l / a) ≡ up (l / a)) → ((l : ℕ) → l < n → low' l ≡ low l)
    → Sums a n up low → Sums a n up' low'
sums_same a n up low up' low' hu hl S l h = ap (λ (y : ℕ). child a y (l % a)) (hu l h) ∙ S l h ∙ ap flag (sym (hl l h))

-- one place changed that is not 0 before and after
pub sums_filled : (a n : ℕ) (up low up' low' : ℕ → ℕ) (k : ℕ) → (low k ≡ 0 → ⊥) → (low' k ≡ 0 → ⊥) → ((l : ℕ) → l < n → up' (l / a) ≡ up (l / a))
    → ((l : ℕ) → l < n → (l ≡ k → ⊥) → low' l ≡ low l) → Sums a n up low → Sums a n up' low'
sums_filled a n up low up' low' k f g hu hl S l h = ap (λ (y : ℕ). child a y (l % a)) (hu l h) ∙ S l h ∙ go (eq_or l k)
  where
    go : (l ≡ k) ⊎ (l ≡ k → ⊥) → flag (low l) ≡ flag (low' l)
    go (inl e) = flag_some (low l) (λ z. f (ap low (sym e) ∙ z)) ∙ sym (flag_some (low' l) (λ z. g (ap low' (sym e) ∙ z)))
    go (inr ne) = ap flag (sym (hl l h ne))

-- ---- what a bit says

-- above a place that is not 0 the bit is set, so the word is not 0
pub set_above : (a n : ℕ) (up low : ℕ → ℕ) (l : ℕ) → Sums a n up low → l < n → (low l ≡ 0 → ⊥) → child a (up (l / a)) (l % a) ≡ 1
set_above a n up low l S h ne = S l h ∙ flag_some (low l) ne

pub some_above : (a n : ℕ) (up low : ℕ → ℕ) (l : ℕ) → Sums a n up low → l < n → (low l ≡ 0 → ⊥) → up (l / a) ≡ 0 → ⊥
some_above a n up low l S h ne z =
    let e : ◌≡◌ {A = ℕ} 1 0 = sym (set_above a n up low l S h ne) ∙ ap (λ (y : ℕ). child a y (l % a)) z ∙ child_zero a (l % a) in
    omega arith

-- below a bit that is set the place is not 0
pub some_below : (a n : ℕ) (up low : ℕ → ℕ) (l : ℕ) → Sums a n up low → l < n → child a (up (l / a)) (l % a) ≡ 1 → low l ≡ 0 → ⊥
some_below a n up low l S h e = flag_one (low l) (sym (S l h) ∙ e)
