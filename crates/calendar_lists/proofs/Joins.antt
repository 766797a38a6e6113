-- What the two stores of `join` leave.
use mathlib.Core.Path.{◌≡◌, refl, ap, ◌∙◌}
use mathlib.Core.Logic.{◌⊎◌, inl, inr}
use mathlib.Core.List.{List}
use Prim.Native.Nat.{ℕ, ◌+◌, ◌*◌, ◌≤◌, ◌<◌}
use native.Mathlib.Omega.{arith}
use lib.ListN.{length}
use Rattle.calendar_cells.specs.Cells.{word_at, back_at, link_at, put_back, put_link}
use Rattle.calendar_lists.specs.Promises.{Joined}
use Rattle.calendar_cells.proofs.CellLaws.{length_back, length_link, word_back, word_link, back_same, back_other, back_link, link_same, link_other, link_back}

-- a place and a station in range are not out of range
pub join_in : (p n : ℕ) → p < 66048 → n ≤ 256 → (66048 ≤ p) ⊎ (256 < n) → ⊥
join_in p n lp ln (inl a) = omega arith
join_in p n lp ln (inr a) = omega arith

-- a place or a station out of range
pub join_nothing : (p n : ℕ) (xs : List ℕ) → (66048 ≤ p) ⊎ (256 < n) → Joined p n xs xs
join_nothing p n xs h = record {
  size = refl;
  words = λ i l. refl;
  high = λ q l j. refl;
  next = λ lx lp ln. absurd (join_in p n lp ln h);
  prev = λ lx lp ln. absurd (join_in p n lp ln h);
  links = λ k e. refl;
  backs = λ k l e. refl;
}

pub join_two : (p n : ℕ) (xs ys zs : List ℕ) → p < 66048 → n ≤ 256 → ys ≡ put_link p n xs → zs ≡ put_back n p ys → Joined p n xs zs
join_two p n xs ys zs lp ln e f = record {
  size = ap length f ∙ length_back n p ys ∙ ap length e ∙ length_link p n xs;
  words = λ i l. ap (word_at i) f ∙ word_back n p ys i (omega arith) (inl l) ∙ ap (word_at i) e ∙ word_link p n xs 0 i (inl (omega arith));
  high = λ q l j.
      ap (word_at (541 + 4 * q + j)) f ∙ word_back n p ys (541 + 4 * q + j) (omega arith) (inr (omega arith)) ∙ ap (word_at (541 + 4 * q + j)) e
      ∙ word_link p n xs q (541 + 4 * q + j) (inr (omega arith, l));
  next = λ lx _ _. ap (link_at p) f ∙ link_back n p ys p (omega arith) ∙ ap (link_at p) e ∙ link_same p n xs lx (omega arith);
  prev = λ lx _ _. ap (back_at n) f ∙ back_same n p ys (omega arith) (rw (e, length_link) lx) (omega arith);
  links = λ k a. ap (link_at k) f ∙ link_back n p ys k (omega arith) ∙ ap (link_at k) e ∙ link_other p n xs k a;
  backs = λ k l a. ap (back_at k) f ∙ back_other n p ys k a ∙ ap (back_at k) e ∙ back_link p n xs k l;
}
