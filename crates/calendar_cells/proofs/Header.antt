-- The caller's bytes are no part of the table: a store to one of the first 7 words leaves it as it was.
use mathlib.Core.Path.{◌≡◌, sym, subst, ◌∙◌}
use mathlib.Core.Logic.{inl}
use mathlib.Core.List.{List}
use Prim.Native.Nat.{ℕ, suc, ◌+◌, ◌*◌, ◌≤◌, ◌<◌}
use native.Mathlib.Omega.{arith}
use Rattle.calendar_cells.specs.Cells.{put_word}
use Rattle.calendar_cells.specs.Table.{due_of, bucket_of, next_place, prev_place, bucket_head, Table}
use Rattle.calendar_cells.proofs.CellLaws.{length_word, word_other, back_word, link_word}
use Rattle.calendar_cells.proofs.DueLaws.{due_same, bucket_same, arity_same}
use Rattle.calendar_cells.proofs.TableLaws.{table_sizes, tree_same, lists_same}

pub header_due : (i v : ℕ) (xs : List ℕ) (x : ℕ) → i < 8 → due_of (put_word i v xs) x ≡ due_of xs x
header_due i v xs x h = due_same xs (put_word i v xs) x (word_other i v xs (8 + x) (omega arith))

pub header_bucket : (i v : ℕ) (xs : List ℕ) (x : ℕ) → i < 8 → bucket_of (put_word i v xs) x ≡ bucket_of xs x
header_bucket i v xs x h = bucket_same xs (put_word i v xs) x (word_other i v xs (8 + x) (omega arith))

pub header_table : (a i v : ℕ) (xs : List ℕ) → i < 7 → Table a xs → Table a (put_word i v xs)
header_table a i v xs h T = record {
  arity_is = T.arity_is ∙ sym (arity_same xs (put_word i v xs) (word_other i v xs 7 (omega arith)));
  long = rw length_word T.long;
  until = λ x l. rw (dues x) (T.until x l);
  within = λ x l r. rw (buckets x) (T.within x l (λ z. r (dues x ∙ z)));
  own = λ x l r k. buckets x ∙ T.own x l (λ z. r (dues x ∙ z)) (subst (λ (y : ℕ). 16 * (a * a) ≤ y) (buckets x) k);
  lists =
      lists_same (512 + 16 * (a * a)) (omega arith) (bucket_of xs) (bucket_of (put_word i v xs)) (due_of xs) (due_of (put_word i v xs))
      (next_place xs) (next_place (put_word i v xs)) (prev_place xs) (prev_place (put_word i v xs)) (λ x _. buckets x) (λ x _. dues x) next prev T.lists;
  tree =
      tree_same a (bucket_head xs) (bucket_head (put_word i v xs)) xs (put_word i v xs) (table_sizes T) (λ l k. next (256 + l) (omega arith)) (λ j. word_other i v xs _ (omega arith))
      (λ r _. word_other i v xs _ (omega arith)) T.tree;
}
  where
    dues : (x : ℕ) → due_of (put_word i v xs) x ≡ due_of xs x
    dues x = header_due i v xs x (omega arith)

    buckets : (x : ℕ) → bucket_of (put_word i v xs) x ≡ bucket_of xs x
    buckets x = header_bucket i v xs x (omega arith)

    next : (p : ℕ) → p < 512 + 16 * (a * a) → next_place (put_word i v xs) p ≡ next_place xs p
    next p l = link_word i v xs (a * a) p (inl (omega arith)) l

    prev : (x : ℕ) → x < 256 → prev_place (put_word i v xs) x ≡ prev_place xs x
    prev x l = back_word i v xs (suc x) (inl (omega arith)) (omega arith)
