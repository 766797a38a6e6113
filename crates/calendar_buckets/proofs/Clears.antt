-- A table whose cells are 0 has no station.
use mathlib.Core.Path.{◌≡◌, refl, sym, ap, ap₂, ◌∙◌}
use mathlib.Core.Bool.{Bool, true, false, cond, ◌&&◌}
use mathlib.Core.Logic.{◌⊎◌, inl, inr}
use mathlib.Core.List.{List, ◌++◌}
use Prim.Native.Nat.{ℕ, zero, suc, ◌+◌, ◌-◌, ◌*◌, ◌/◌, ◌%◌, ◌^◌, ◌≤◌, ◌<◌}
use native.Mathlib.Omega.{arith}
use lib.Dec.{ltb, leb}
use lib.ListN.{length, get_or, take, drop, replicate, length-replicate, get_or-eq_default}
use borrow.Rule.Slice.PartMut.{put_mid, post_of, mid_len, same_len_mid}
use Rattle.std.proofs.lemmas.List.{length-take-le, get_or_append_left, get_or-append_right, get_or-take, get_or-drop, get_or-replicate}
use borrow.Author.Tests.{lt-ltb, le-ltb, le-leb, lt-leb}
use Rattle.words.specs.Le.{le_at, load_at}
use Rattle.calendar_bitmap.specs.Child.{child}
use Rattle.calendar_bitmap.proofs.ChildLaws.{child_zero}
use Rattle.calendar_shapes.specs.declared.Shape.{Shape}
use Rattle.calendar_shapes.specs.Rule.{arity_in, Right, Sizes}
use Rattle.calendar_shapes.proofs.Powers.{row_sizes, right_arity}
use lib.Pow.{pow_pos}
use Rattle.calendar_cells.specs.Cells.{word_at, link_at, put_word}
use Rattle.calendar_cells.specs.Tree.{flag}
use Rattle.calendar_cells.specs.Table.{due_of, node_word, root_of, arity_of, bytes_for, Table}
use Rattle.calendar_buckets.specs.Promises.{Cleared}
use Rattle.calendar_cells.proofs.CellLaws.{length_word, byte_word, word_same, word_other}
use Rattle.calendar_cells.proofs.TableLaws.{node_in, root_in}
use Rattle.words.proofs.Cases.{lt_or}

-- the bytes from 64 to i are 0, and the others are as they were
pub record Wiped (xs ys : List ℕ) (i : ℕ) : Type 0 where
  pub size : length ys ≡ length xs
  pub zeros : (k : ℕ) → 64 ≤ k → k < i → get_or ys k 0 ≡ 0
  pub low : (k : ℕ) → k < 64 → get_or ys k 0 ≡ get_or xs k 0
  pub high : (k : ℕ) → i ≤ k → get_or ys k 0 ≡ get_or xs k 0

pub wipe_start : (xs : List ℕ) → Wiped xs xs 64
wipe_start xs = record { size = refl; zeros = λ k a b. absurd (omega arith); low = λ k l. refl; high = λ k l. refl }

-- the part from 64 to e is filled with 0
pub wipe_part : (xs zs : List ℕ) (e n : ℕ) → 64 ≤ e → e ≤ length xs → length zs ≡ e - 64 → zs ≡ replicate {A = ℕ} n 0 → Wiped xs (put_mid 64 (e - 64) xs zs) e
wipe_part xs zs e n a l size f = record {
  size = same_len_mid 64 (e - 64) xs zs (size ∙ sym (mid_len 64 e xs l));
  zeros = λ k b c. past k b ∙ get_or_append_left zs rest 0 (k - 64) (omega (arith, size)) ∙ ap (λ (ys : List ℕ). get_or ys (k - 64) 0) f ∙ none (k - 64) (lt_or (k - 64) n);
  low = λ k b. get_or_append_left (take 64 xs) (zs ++ rest) 0 k (omega (arith, front)) ∙ get_or-take 64 xs k 0 b;
  high = λ k b.
      past k (omega arith) ∙ get_or-append_right zs rest (e - 64) (k - 64) 0 size (omega arith) ∙ get_or-drop (e - 64) (drop 64 xs) (k - 64 - (e - 64)) 0
      ∙ get_or-drop 64 xs (e - 64 + (k - 64 - (e - 64))) 0 ∙ ap (λ (j : ℕ). get_or xs j 0) (there k b);
}
  where
    rest : List ℕ
    rest = post_of 64 (e - 64) xs

    front : length (take 64 xs) ≡ 64
    front = length-take-le 64 xs (omega arith)

    past : (k : ℕ) → 64 ≤ k → get_or (put_mid 64 (e - 64) xs zs) k 0 ≡ get_or (zs ++ rest) (k - 64) 0
    past k b = get_or-append_right (take 64 xs) (zs ++ rest) 64 k 0 front b

    there : (k : ℕ) → e ≤ k → 64 + (e - 64 + (k - 64 - (e - 64))) ≡ k
    there k b = omega arith

    none : (j : ℕ) → (j < n) ⊎ (n ≤ j) → get_or (replicate {A = ℕ} n 0) j 0 ≡ 0
    none j (inl b) = get_or-replicate {A = ℕ} n j 0 0 b
    none j (inr b) = get_or-eq_default (replicate {A = ℕ} n 0) 0 (omega (arith, length-replicate {A = ℕ} n 0))

-- ---- numbers of equal bytes

le_equal : (n i : ℕ) (xs ys : List ℕ) → ((k : ℕ) → i ≤ k → k < i + n → get_or ys k 0 ≡ get_or xs k 0) → le_at n i ys ≡ le_at n i xs
unfolding le_at
le_equal zero i xs ys h = refl
le_equal (suc n) i xs ys h =
    ap₂ (λ (a b : ℕ). a * 256 + b) (le_equal n (suc i) xs ys (λ k a b. h k (omega arith) (omega arith))) (h i (omega arith) (omega arith))

load_equal : (n i : ℕ) (xs ys : List ℕ) → length ys ≡ length xs → ((k : ℕ) → i ≤ k → k < i + n → get_or ys k 0 ≡ get_or xs k 0) → load_at n i ys ≡ load_at n i xs
unfolding load_at
load_equal n i xs ys size h = rw (size, le_equal n i xs ys h)

le_zero : (n i : ℕ) (xs : List ℕ) → ((k : ℕ) → i ≤ k → k < i + n → get_or xs k 0 ≡ 0) → le_at n i xs ≡ 0
unfolding le_at
le_zero zero i xs h = refl
le_zero (suc n) i xs h =
    ap₂ (λ (a b : ℕ). a * 256 + b) (le_zero n (suc i) xs (λ k a b. h k (omega arith) (omega arith))) (h i (omega arith) (omega arith))

load_zero : (n i : ℕ) (xs : List ℕ) → ((k : ℕ) → i ≤ k → k < i + n → get_or xs k 0 ≡ 0) → load_at n i xs ≡ 0
unfolding load_at
load_zero n i xs h = go (leb (i + n) (length xs))
  where
    go : (b : Bool) → cond b (le_at n i xs) 0 ≡ 0
    go true = le_zero n i xs h
    go false = refl

-- the bytes of a row's table
pub right_most : (row : ℕ) (q : Shape) → Right (row % 4) q → (q.leaves ≤ 4096) × (q.words ≤ 65) × (4456 + 32 * q.leaves + 128 * q.words ≡ bytes_for (arity_in row))
right_most row q Q =
    let Z = row_sizes row in
    let e = right_arity row q Q in
    let l : q.leaves ≡ arity_in row * arity_in row = Q.leaves_is ∙ ap (λ (m : ℕ). m * m) e in
    let w : q.words ≡ arity_in row + 1 = Q.words_is ∙ ap (λ (m : ℕ). m + 1) e in
    (omega (arith, Z.most), omega (arith, Z.high), omega arith)

module _
    (row : ℕ) (fits : row < 2 ^ 64) (xs vs ys : List ℕ) (i e : ℕ) (ev : vs ≡ put_word 7 row xs) (W : Wiped vs ys i) (most : i ≤ bytes_for (arity_in row))
    (past : e ≤ i) (short : e < bytes_for (arity_in row) → e ≡ length vs)
  where
    Z : Sizes (arity_in row)
    Z = row_sizes row

    zero_at : (k : ℕ) → 64 ≤ k → k < bytes_for (arity_in row) → get_or ys k 0 ≡ 0
    zero_at k h b = go (lt_or k i)
      where
        go : (k < i) ⊎ (i ≤ k) → get_or ys k 0 ≡ 0
        go (inl l) = W.zeros k h l
        go (inr l) = get_or-eq_default ys 0 (let s = short (omega arith) in omega (arith, W.size))

    word_zero : (j : ℕ) → 8 ≤ j → 8 * j + 8 ≤ bytes_for (arity_in row) → word_at j ys ≡ 0
    unfolding word_at
    word_zero j l h = load_zero 8 (8 * j) ys (λ k b c. zero_at k (omega arith) (omega arith))

    link_zero : (p : ℕ) → p < 512 + 16 * (arity_in row * arity_in row) → link_at p ys ≡ 0
    unfolding link_at
    link_zero p l = load_zero 2 (3304 + 2 * p) ys (λ k b c. zero_at k (omega arith) (omega arith))

    due_zero : (x : ℕ) → x < 256 → due_of ys x ≡ 0
    unfolding due_of
    due_zero x l = rw (word_zero (8 + x) (omega arith) (omega (arith, Z.low)))

    node_zero : (j : ℕ) → j < 16 * arity_in row + 32 → node_word (arity_in row) ys j ≡ 0
    node_zero j l = word_zero (541 + 4 * (arity_in row * arity_in row) + j) (omega arith) (omega arith)

    root_zero : (r : ℕ) → r < 20 → root_of ys r ≡ 0
    root_zero r l = word_zero (264 + r) (omega arith) (omega arith)

    low_word : (j : ℕ) → j < 8 → word_at j ys ≡ word_at j vs
    unfolding word_at
    low_word j l = load_equal 8 (8 * j) vs ys W.size (λ k b c. W.low k (omega arith))

    arity_right : 64 ≤ length xs → arity_in row ≡ arity_of ys
    unfolding arity_of
    arity_right long =
        let w : word_at 7 ys ≡ row = low_word 7 (omega arith) ∙ ap (word_at 7) ev ∙ word_same 7 row xs (omega arith) fits in
        ap arity_in (sym w)

    wiped_table : bytes_for (arity_in row) ≤ length xs → Table (arity_in row) ys
    wiped_table long = record {
      arity_is = arity_right (omega arith);
      long = rw (W.size, ev, length_word) long;
      until = λ x l. rw (due_zero x l) (omega arith);
      within = λ x l r. absurd (r (due_zero x l));
      own = λ x l r. absurd (r (due_zero x l));
      lists = record {
        back = λ s l r. absurd (r (due_zero s l));
        front = λ p l r m u. absurd (let z : suc m ≡ 0 = sym u ∙ link_zero p l in omega arith);
      };
      tree = record {
        node_fits = λ j l. rw (node_zero j l) (pow_pos (arity_in row));
        root_fits = λ r l. rw (root_zero r l) (pow_pos (arity_in row));
        leaves = λ l h.
            ap (λ (y : ℕ). child (arity_in row) y (l % arity_in row)) (node_zero (l / arity_in row) (node_in (arity_in row) Z l h)) ∙ child_zero (arity_in row) (l % arity_in row)
            ∙ sym (ap flag (link_zero (256 + l) (omega arith)));
        nodes = λ l h.
            ap (λ (y : ℕ). child (arity_in row) y (l % arity_in row)) (root_zero (l / arity_in row) (root_in (arity_in row) Z l h)) ∙ child_zero (arity_in row) (l % arity_in row)
            ∙ sym (ap flag (node_zero l h));
      };
    }

    -- before word 7 and from the first station's word on
    wiped_bytes : (k : ℕ) → (k < 56) ⊎ (64 ≤ k) → get_or ys k 0 ≡ cond (leb 64 k && ltb k (bytes_for (arity_in row))) 0 (get_or xs k 0)
    wiped_bytes k (inl l) = rw (lt-leb 64 k (omega arith)) (W.low k (omega arith) ∙ ap (λ (zs : List ℕ). get_or zs k 0) ev ∙ byte_word 7 row xs k (inl l))
    wiped_bytes k (inr l) = go (lt_or k (bytes_for (arity_in row)))
      where
        go : (k < bytes_for (arity_in row)) ⊎ (bytes_for (arity_in row) ≤ k) → get_or ys k 0 ≡ cond (leb 64 k && ltb k (bytes_for (arity_in row))) 0 (get_or xs k 0)
        go (inl m) = rw (le-leb 64 k l, lt-ltb k (bytes_for (arity_in row)) m) (zero_at k l m)
        go (inr m) =
            rw (le-leb 64 k l, le-ltb k (bytes_for (arity_in row)) m)
            (W.high k (omega arith) ∙ ap (λ (zs : List ℕ). get_or zs k 0) ev ∙ byte_word 7 row xs k (inr l))

    pub wiped : Cleared (arity_in row) xs ys
    wiped = record {
      size = W.size ∙ ap length ev ∙ length_word 7 row xs;
      bytes = wiped_bytes;
      words = λ j l. low_word j (omega arith) ∙ ap (word_at j) ev ∙ word_other 7 row xs j (omega arith);
      table = wiped_table;
      absent = due_zero;
    }
