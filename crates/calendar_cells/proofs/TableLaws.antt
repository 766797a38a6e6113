-- What holds of a table: its arity is one of the four, and it depends on its cells only.
use mathlib.Core.Path.{◌≡◌, refl, sym, ap, ◌∙◌, subst}
use mathlib.Core.List.{List}
use Prim.Native.Nat.{ℕ, zero, suc, ◌+◌, ◌*◌, ◌/◌, ◌≤◌, ◌<◌}
use native.Mathlib.Nat.{div-lt_iff_lt-mul, add-mul, mul_assoc}
use native.Mathlib.Omega.{arith}
use lib.ListN.{length}
use Rattle.calendar_shapes.specs.Rule.{arity_in, Sizes}
use Rattle.calendar_bitmap.specs.Child.{Arity}
use Rattle.calendar_shapes.proofs.Powers.{row_sizes, row_arity}
use Rattle.calendar_cells.specs.Cells.{word_at}
use Rattle.calendar_cells.specs.Lists.{Live, Back, Lists}
use Rattle.calendar_cells.specs.Tree.{Tree}
use Rattle.calendar_cells.specs.Table.{due_of, arity_of, next_place, node_word, root_of, Table}
use Rattle.calendar_cells.proofs.Places.{back_same}
use Rattle.calendar_cells.proofs.TreeLaws.{sums_same}

-- ---- the arity of the bytes

pub bytes_sizes : (xs : List ℕ) → Sizes (arity_of xs)
unfolding arity_of
bytes_sizes xs = row_sizes (word_at 7 xs)

pub bytes_arity : (xs : List ℕ) → Arity (arity_of xs)
unfolding arity_of
bytes_arity xs = row_arity (word_at 7 xs)

pub table_sizes : {a : ℕ} {xs : List ℕ} → Table a xs → Sizes a
table_sizes {xs = xs} T = rw T.arity_is (bytes_sizes xs)

pub table_arity : {a : ℕ} {xs : List ℕ} → Table a xs → Arity a
table_arity {xs = xs} T = rw T.arity_is (bytes_arity xs)

-- the arity of a table is that in the row of its bytes
pub by_row : (a row : ℕ) (xs : List ℕ) → row ≡ word_at 7 xs → Table a xs → a ≡ arity_in row
unfolding arity_of
by_row a row xs e T = T.arity_is ∙ ap arity_in (sym e)

-- no buffer that is shorter than the smallest table is a table
pub too_short : {a : ℕ} {xs : List ℕ} → Table a xs → length xs < 7656 → ⊥
too_short T l = omega (arith, T.long, (table_sizes T).low, (table_sizes T).square)

-- ---- the words above a bucket

module _ (a : ℕ) (z : Sizes a) where
  pub node_in : (l : ℕ) → l < 16 * (a * a) + 256 → l / a < 16 * a + 32
  node_in l h = let pa : 0 < a = omega (arith, z.low) in (div-lt_iff_lt-mul pa).1 (omega (arith, z.low, add-mul (16 * a) 32 a, mul_assoc 16 a a))

  pub root_in : (j : ℕ) → j < 16 * a + 32 → j / a < 20
  root_in j h = let pa : 0 < a = omega (arith, z.low) in (div-lt_iff_lt-mul pa).1 (omega (arith, z.low))

-- only the values count
pub lists_same : (places : ℕ) → 256 ≤ places → (at at' due due' next next' prev prev' : ℕ → ℕ) → ((x : ℕ) → x < 256 → at' x ≡ at x)
    → ((x : ℕ) → x < 256 → due' x ≡ due x) → ((p : ℕ) → p < places → next' p ≡ next p) → ((x : ℕ) → x < 256 → prev' x ≡ prev x)
    → Lists places at due next prev → Lists places at' due' next' prev'
lists_same places wide at at' due due' next next' prev prev' ha hd hn hp L = record {
  back = λ s l r.
      let B = L.back s l (λ z. r (hd s l ∙ z)) in
      subst (λ (q : ℕ). Back places at' due' next' q s) (sym (hp s l))
      (back_same places at at' due due' next next' (prev s) s (ha (prev s)) (ha s l) (hd (prev s)) (hd s l) (hn (prev s) B.within) B);
  front = λ p l r n e.
      let F = L.front p l (λ k z. r k (hd p k ∙ z)) n (sym (hn p l) ∙ e) in
      record { station = F.station; live = λ z. F.live (sym (hd n F.station) ∙ z); prev_is = hp n F.station ∙ F.prev_is };
}

-- no link leads beyond the stations
pub next_most : (a : ℕ) (xs : List ℕ) → Table a xs → (p : ℕ) → p < 512 + 16 * (a * a) → Live (due_of xs) p → next_place xs p ≤ 256
next_most a xs T p lp r = go (next_place xs p) refl
  where
    go : (n : ℕ) → next_place xs p ≡ n → n ≤ 256
    go zero e = omega arith
    go (suc m) e = let l = (T.lists.front p lp r m e).station in omega arith

-- the tree depends on the heads' and the bits' words only
pub tree_same : (a : ℕ) (head head' : ℕ → ℕ) (xs ys : List ℕ) → Sizes a → ((l : ℕ) → l < 16 * (a * a) + 256 → head' l ≡ head l) → ((j : ℕ) → node_word a ys j ≡ node_word a xs j)
    → ((r : ℕ) → r < 20 → root_of ys r ≡ root_of xs r) → Tree a head (node_word a xs) (root_of xs) → Tree a head' (node_word a ys) (root_of ys)
tree_same a head head' xs ys z hh hn hr T = record {
  node_fits = λ j l. rw (hn j) (T.node_fits j l);
  root_fits = λ r l. rw (hr r l) (T.root_fits r l);
  leaves = sums_same a (16 * (a * a) + 256) (node_word a xs) head (node_word a ys) head' (λ l lk. hn (l / a)) hh T.leaves;
  nodes = sums_same a (16 * a + 32) (root_of xs) (node_word a xs) (root_of ys) (node_word a ys) (λ l lk. hr (l / a) (root_in a z l lk)) (λ l lk. hn l) T.nodes;
}
