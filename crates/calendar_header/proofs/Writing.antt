-- Words of the header written one after the other: each has what was written last, and the table after the header is as it was.
use mathlib.Core.Path.{◌≡◌, refl, sym, ap, ap₂, ◌∙◌, subst}
use mathlib.Core.Bool.{cond}
use mathlib.Core.Logic.{◌⊎◌, inl, inr}
use mathlib.Core.List.{List}
use Prim.Native.Nat.{ℕ, suc, ◌+◌, ◌*◌, ◌^◌, ◌≤◌, ◌<◌}
use native.Mathlib.Omega.{arith}
use lib.Dec.{eqb}
use lib.ListN.{length}
use borrow.Author.Tests.{eq-eqb, ne_eqb}
use Rattle.refusal.specs.Tests.{horizon}
use Rattle.calendar_cells.specs.Cells.{word_at, put_word}
use Rattle.calendar_cells.specs.Table.{due_of, bucket_of, Table}
use Rattle.words.proofs.Cases.{eq_or}
use Rattle.calendar_cells.proofs.CellLaws.{length_word, word_same, word_other}
use Rattle.calendar_cells.proofs.Header.{header_due, header_bucket, header_table}
use Rattle.calendar_ring.specs.Ring.{block_of, slot_of_time, ring_end}
use Rattle.calendar_header.specs.Bytes.{width_of, floor_of, ring_start, end_of, limit_of, slot_in, count_of, Header}

-- the words g with v at i
abbrev pub put_at : (ℕ → ℕ) → ℕ → ℕ → ℕ → ℕ
put_at g i v j = cond (eqb j i) v (g j)

pub record Written (g : ℕ → ℕ) (xs ys : List ℕ) : Type 0 where
  pub size : length ys ≡ length xs
  pub table : (a : ℕ) → Table a xs → Table a ys
  pub dues : (x : ℕ) → due_of ys x ≡ due_of xs x
  pub buckets : (x : ℕ) → bucket_of ys x ≡ bucket_of xs x
  pub words : 64 ≤ length xs → (i : ℕ) → i < 8 → word_at i ys ≡ g i

pub written_start : (xs : List ℕ) → Written (λ i. word_at i xs) xs xs
written_start xs = record { size = refl; table = λ a T. T; dues = λ x. refl; buckets = λ x. refl; words = λ h i l. refl }

pub written_put : (g : ℕ → ℕ) (xs ys zs : List ℕ) (i v : ℕ) → Written g xs ys → i < 7 → v < 2 ^ 64 → zs ≡ put_word i v ys → Written (put_at g i v) xs zs
written_put g xs ys zs i v W l f e = record {
  size = ap length e ∙ length_word i v ys ∙ W.size;
  table = λ a T. subst (Table a) (sym e) (header_table a i v ys l (W.table a T));
  dues = λ x. ap (λ (b : List ℕ). due_of b x) e ∙ header_due i v ys x (omega arith) ∙ W.dues x;
  buckets = λ x. ap (λ (b : List ℕ). bucket_of b x) e ∙ header_bucket i v ys x (omega arith) ∙ W.buckets x;
  words = λ h j lj. ap (word_at j) e ∙ go h j lj (eq_or j i);
}
  where
    go : 64 ≤ length xs → (j : ℕ) → j < 8 → (j ≡ i) ⊎ (j ≡ i → ⊥) → word_at j (put_word i v ys) ≡ put_at g i v j
    go h j lj (inl q) = rw (eq-eqb j i q) (ap (λ (k : ℕ). word_at k (put_word i v ys)) q ∙ word_same i v ys (omega (arith, W.size)) f)
    go h j lj (inr q) = rw (ne_eqb j i q) (word_other i v ys j q ∙ W.words h j lj)

-- ---- the header that stands there then

pub header_is : (a : ℕ) (ys : List ℕ) (w f n : ℕ) → 0 < w → w ≤ 1048576 → f ≤ suc horizon → 0 < n → n ≤ 256 → width_of ys ≡ w → floor_of ys ≡ f
    → ring_start ys ≡ block_of a w f * (w * (a * a)) → end_of ys ≡ (block_of a w f + 1) * (w * (a * a)) → limit_of ys ≡ ring_end a w f
    → slot_in ys ≡ slot_of_time a w f → count_of ys ≡ n → Header a ys
header_is a ys w f n pw mw mf pn mn ew ef es ee el et en = record {
  width_pos = rw ew pw;
  width_most = rw ew mw;
  floor_most = rw ef mf;
  count_pos = rw en pn;
  count_most = rw en mn;
  start_is = es ∙ sym (ap₂ (λ (x y : ℕ). block_of a x y * (x * (a * a))) ew ef);
  end_is = ee ∙ sym (ap₂ (λ (x y : ℕ). (block_of a x y + 1) * (x * (a * a))) ew ef);
  limit_is = el ∙ sym (ap₂ (λ (x y : ℕ). ring_end a x y) ew ef);
  slot_is = et ∙ sym (ap₂ (λ (x y : ℕ). slot_of_time a x y) ew ef);
}
