-- The two bits above a bucket after `raise` and after `lower`, over the arity a.
use mathlib.Core.Path.{◌≡◌, refl, sym, ap, ◌∙◌, subst}
use mathlib.Core.Bool.{Bool, true, false}
use mathlib.Core.Logic.{◌⊎◌, inl, inr}
use mathlib.Core.List.{List}
use Prim.Native.Nat.{ℕ, ◌+◌, ◌*◌, ◌/◌, ◌%◌, ◌^◌, ◌≤◌, ◌<◌}
use native.Mathlib.Nat.{eq-zero-or-pos, lt_of_lt_of_le, mod-lt}
use native.Mathlib.Omega.{arith}
use lib.Dec.{ltb}
use lib.Pow.{pow_mono}
use lib.ListN.{length}
use borrow.Author.Tests.{lt-ltb, le-ltb}
use Rattle.calendar_bitmap.specs.Child.{child}
use Rattle.calendar_bitmap.specs.Promises.{WithChild}
use Rattle.words.proofs.Cases.{eq_or}
use Rattle.calendar_bitmap.proofs.ChildLaws.{child_zero}
use Rattle.calendar_shapes.specs.Rule.{Sizes, arity_in}
use Rattle.calendar_shapes.proofs.Powers.{same_row}
use Rattle.calendar_cells.specs.Cells.{word_at, back_at, link_at, put_word}
use Rattle.calendar_cells.specs.Tree.{Sums}
use Rattle.calendar_cells.specs.Table.{node_word, root_of, bucket_head, bytes_for}
use Rattle.calendar_bits.specs.Promises.{Refreshed, Raised, Lowered}
use Rattle.calendar_cells.proofs.CellLaws.{length_word, word_same, word_other, back_word, link_word}
use Rattle.calendar_cells.proofs.TreeLaws.{sums_set, sums_same, sums_filled, some_above}
use Rattle.calendar_cells.proofs.TableLaws.{node_in, root_in}

-- there is no such bucket, or the buffer is shorter than a table
abbrev pub Outside : ℕ → ℕ → ℕ → Type 0
Outside a list bytes = (16 * (a * a) + 256 ≤ list) ⊎ (bytes < bytes_for a)

pub refresh_out : (a : ℕ) (when : (ℕ → ℕ) → Type 0) (list : ℕ) (xs : List ℕ) → Outside a list (length xs) → Refreshed a when list xs xs
refresh_out a when list xs o = record {
  size = refl;
  words = λ i l. refl;
  backs = λ _ k l. refl;
  links = λ _ k l. refl;
  tree = λ long l head w same T. absurd (no o long l);
}
  where
    no : Outside a list (length xs) → bytes_for a ≤ length xs → list < 16 * (a * a) + 256 → ⊥
    no (inl h) long l = omega arith
    no (inr h) long l = omega arith

-- the code has tested both
pub inside : (a list bytes L B : ℕ) → L ≡ a * a → B ≡ bytes_for a → list < 16 * L + 256 → B ≤ bytes → Outside a list bytes → ⊥
inside a list bytes L B eL eB l long (inl h) = omega arith
inside a list bytes L B eL eB l long (inr h) = omega arith

-- what is promised of a row is promised of each row that is one with it modulo 4
pub by_row : (i row : ℕ) (when : (ℕ → ℕ) → Type 0) (list : ℕ) (xs ys : List ℕ) → row % 4 ≡ i % 4
    → Refreshed (arity_in i) when list xs ys → Refreshed (arity_in row) when list xs ys
by_row i row when list xs ys e = subst (λ (a : ℕ). Refreshed a when list xs ys) (same_row i row e)

pub none_by_row : (i row list : ℕ) (xs ys : List ℕ) → row % 4 ≡ i % 4 → (Outside (arity_in i) list (length xs) → ys ≡ xs)
    → Outside (arity_in row) list (length xs) → ys ≡ xs
none_by_row i row list xs ys e = subst (λ (a : ℕ). Outside a list (length xs) → ys ≡ xs) (same_row i row e)

-- the last row: none of the others
pub last_row : (row : ℕ) → (row % 4 ≡ 0 → ⊥) → (row % 4 ≡ 1 → ⊥) → (row % 4 ≡ 2 → ⊥) → row % 4 ≡ 3 % 4
last_row row a b c = let l : row % 4 < 4 = mod-lt row (omega arith) in omega arith

-- the bucket was filled and is filled: its bits are set already
pub lower_nothing : (a list : ℕ) (xs : List ℕ) → (bucket_head xs list ≡ 0 → ⊥) → Lowered a list xs xs
lower_nothing a list xs f = record {
  size = refl;
  words = λ i l. refl;
  backs = λ _ k l. refl;
  links = λ _ k l. refl;
  tree = λ _ _ head was same T. record {
    node_fits = T.node_fits;
    root_fits = T.root_fits;
    leaves = sums_filled a (16 * (a * a) + 256) (node_word a xs) head (node_word a xs) (bucket_head xs) list was f (λ k l. refl) same T.leaves;
    nodes = T.nodes;
  };
}

fits_word : (a y : ℕ) → Sizes a → y < 2 ^ a → y < 2 ^ 64
fits_word a y Z h = lt_of_lt_of_le h (pow_mono Z.high)

-- the node's bit is written
module _ (a : ℕ) (Z : Sizes a) (list : ℕ) (xs ys : List ℕ) (on : Bool) (y : ℕ) (ey : ys ≡ put_word (541 + 4 * (a * a) + list / a) y xs) where
  pa : 0 < a
  pa = omega (arith, Z.low)

  y_other : (i : ℕ) → (i ≡ 541 + 4 * (a * a) + list / a → ⊥) → word_at i ys ≡ word_at i xs
  y_other i ne = ap (word_at i) ey ∙ word_other (541 + 4 * (a * a) + list / a) y xs i ne

  y_size : length ys ≡ length xs
  y_size = ap length ey ∙ length_word (541 + 4 * (a * a) + list / a) y xs

  y_back : (k : ℕ) → k < 257 → back_at k ys ≡ back_at k xs
  y_back k l = ap (back_at k) ey ∙ back_word (541 + 4 * (a * a) + list / a) y xs k (inr (omega arith)) l

  y_link : (k : ℕ) → k < 512 + 16 * (a * a) → link_at k ys ≡ link_at k xs
  y_link k l = ap (link_at k) ey ∙ link_word (541 + 4 * (a * a) + list / a) y xs (a * a) k (inr (omega arith)) l

  module _ (long : bytes_for a ≤ length xs) (l : list < 16 * (a * a) + 256) (Y : WithChild a (node_word a xs (list / a)) (list % a) on y) (fy : y < 2 ^ a) where
    y_this : node_word a ys (list / a) ≡ y
    y_this =
        ap (word_at (541 + 4 * (a * a) + list / a)) ey
        ∙ word_same (541 + 4 * (a * a) + list / a) y xs (omega (arith, node_in a Z list l)) (fits_word a y Z fy)

    y_fits : ((j : ℕ) → j < 16 * a + 32 → node_word a xs j < 2 ^ a) → (j : ℕ) → j < 16 * a + 32 → node_word a ys j < 2 ^ a
    y_fits f j h = go (eq_or j (list / a))
      where
        go : (j ≡ list / a) ⊎ (j ≡ list / a → ⊥) → node_word a ys j < 2 ^ a
        go (inl e) = rw (e, y_this) fy
        go (inr ne) = rw (y_other (541 + 4 * (a * a) + j) (λ q. ne (omega arith))) (f j h)

    -- the bits of the nodes are right where the one that is written says whether the bucket is empty
    y_leaves : on ≡ ltb 0 (bucket_head xs list) → (head : ℕ → ℕ) → ((k : ℕ) → k < 16 * (a * a) + 256 → (k ≡ list → ⊥) → bucket_head xs k ≡ head k)
        → Sums a (16 * (a * a) + 256) (node_word a xs) head → Sums a (16 * (a * a) + 256) (node_word a ys) (bucket_head ys)
    y_leaves e head same S =
        sums_set a (16 * (a * a) + 256) (node_word a xs) head (node_word a ys) (bucket_head ys) list pa
        (rw (y_this, y_link (256 + list) (omega arith)) (subst (λ (b : Bool). WithChild a (node_word a xs (list / a)) (list % a) b y) e Y))
        (λ k lk ne. y_other (541 + 4 * (a * a) + k / a) (λ q. ne (omega arith)))
        (λ k lk ne. y_link (256 + k) (omega arith) ∙ same k lk ne)
        S

  -- the root's bit is written too
  module _ (zs : List ℕ) (x : ℕ) (ez : zs ≡ put_word (264 + list / a / a) x ys) where
    z_other : (i : ℕ) → (i ≡ 264 + list / a / a → ⊥) → word_at i zs ≡ word_at i ys
    z_other i ne = ap (word_at i) ez ∙ word_other (264 + list / a / a) x ys i ne

    module _ (l : list < 16 * (a * a) + 256) where
      lr : list / a / a < 20
      lr = root_in a Z (list / a) (node_in a Z list l)

      z_back : (k : ℕ) → k < 257 → back_at k zs ≡ back_at k ys
      z_back k h = ap (back_at k) ez ∙ back_word (264 + list / a / a) x ys k (inl (let r = lr in omega arith)) h

      z_link : (k : ℕ) → k < 512 + 16 * (a * a) → link_at k zs ≡ link_at k ys
      z_link k h = ap (link_at k) ez ∙ link_word (264 + list / a / a) x ys (a * a) k (inl (let r = lr in omega arith)) h

      z_node : (j : ℕ) → node_word a zs j ≡ node_word a ys j
      z_node j = z_other (541 + 4 * (a * a) + j) (let r = lr in omega arith)

      y_root : (r : ℕ) → r < 20 → root_of ys r ≡ root_of xs r
      y_root r h = y_other (264 + r) (omega arith)

      module _ (long : bytes_for a ≤ length xs) (Y : WithChild a (node_word a xs (list / a)) (list % a) on y)
          (X : WithChild a (root_of ys (list / a / a)) (list / a % a) on x) (fy : y < 2 ^ a) (fx : x < 2 ^ a) where
        z_this : root_of zs (list / a / a) ≡ x
        z_this =
            ap (word_at (264 + list / a / a)) ez
            ∙ word_same (264 + list / a / a) x ys (let r = lr in omega (arith, y_size)) (fits_word a x Z fx)

        node_this : node_word a zs (list / a) ≡ y
        node_this = z_node (list / a) ∙ y_this long l Y fy

        z_nodes : on ≡ ltb 0 y → Sums a (16 * a + 32) (root_of xs) (node_word a xs) → Sums a (16 * a + 32) (root_of zs) (node_word a zs)
        z_nodes e S =
            sums_set a (16 * a + 32) (root_of xs) (node_word a xs) (root_of zs) (node_word a zs) (list / a) pa
            (rw (z_this, node_this)
            (subst (λ (b : Bool). WithChild a (root_of xs (list / a / a)) (list / a % a) b x) e (rw (y_root (list / a / a) lr) at X)))
            (λ k lk ne. z_other (264 + k / a) (λ q. ne (omega arith)) ∙ y_root (k / a) (root_in a Z k lk))
            (λ k lk ne. z_node k ∙ y_other (541 + 4 * (a * a) + k) (λ q. ne (omega arith)))
            S

        z_root_fits : ((r : ℕ) → r < 20 → root_of xs r < 2 ^ a) → (r : ℕ) → r < 20 → root_of zs r < 2 ^ a
        z_root_fits f r h = go (eq_or r (list / a / a))
          where
            go : (r ≡ list / a / a) ⊎ (r ≡ list / a / a → ⊥) → root_of zs r < 2 ^ a
            go (inl e) = rw (e, z_this) fx
            go (inr ne) = rw (z_other (264 + r) (λ q. ne (omega arith)), y_root r h) (f r h)

        z_leaves : Sums a (16 * (a * a) + 256) (node_word a ys) (bucket_head ys) → Sums a (16 * (a * a) + 256) (node_word a zs) (bucket_head zs)
        z_leaves S =
            sums_same a (16 * (a * a) + 256) (node_word a ys) (bucket_head ys) (node_word a zs) (bucket_head zs) (λ k lk. z_node (k / a))
            (λ k lk. z_link (256 + k) (omega arith)) S

    -- both bits say whether the bucket is empty
    two_bits : (when : (ℕ → ℕ) → Type 0) → (WithChild a (node_word a xs (list / a)) (list % a) on y)
        → (WithChild a (root_of ys (list / a / a)) (list / a % a) on x)
        → ((head : ℕ → ℕ) → when head → WithChild a (node_word a xs (list / a)) (list % a) on y → (on ≡ ltb 0 (bucket_head xs list)) × (on ≡ ltb 0 y))
        → Refreshed a when list xs zs
    two_bits when Y X right = record {
      size = ap length ez ∙ length_word (264 + list / a / a) x ys ∙ y_size;
      words = λ i h. z_other i (omega arith) ∙ y_other i (omega arith);
      backs = λ l k h. z_back l k h ∙ y_back k h;
      links = λ l k h. z_link l k h ∙ y_link k h;
      tree = λ long l head w same T.
          let fy = Y.fits (T.node_fits (list / a) (node_in a Z list l)) in
          let fx = X.fits (rw (y_root l (list / a / a) (lr l)) (T.root_fits (list / a / a) (lr l))) in
          let R = right head w Y in
          record {
            node_fits = λ j h. rw (z_node l j) (y_fits long l Y fy T.node_fits j h);
            root_fits = z_root_fits l long Y X fy fx T.root_fits;
            leaves = z_leaves l long Y X fy fx (y_leaves long l Y fy R.0 head same T.leaves);
            nodes = z_nodes l long Y X fy fx R.1 T.nodes;
          };
    }

-- the bucket is filled: both bits are set
module _
    (a : ℕ) (Z : Sizes a) (list : ℕ) (xs ys zs : List ℕ) (y x : ℕ)
    (ey : ys ≡ put_word (541 + 4 * (a * a) + list / a) y xs) (ez : zs ≡ put_word (264 + list / a / a) x ys)
    (Y : WithChild a (node_word a xs (list / a)) (list % a) true y)
    (X : WithChild a (root_of ys (list / a / a)) (list / a % a) true x)
  where
    some : WithChild a (node_word a xs (list / a)) (list % a) true y → 0 < y
    some W = go (eq-zero-or-pos y)
      where
        go : (y ≡ 0) ⊎ (0 < y) → 0 < y
        go (inl z) =
            let e : ◌≡◌ {A = ℕ} 1 0 = sym W.this ∙ ap (λ (k : ℕ). child a k (list % a)) z ∙ child_zero a (list % a) in
            omega arith
        go (inr h) = h

    pub raise_done : Raised a list xs zs
    raise_done =
        two_bits a Z list xs ys true y ey zs x ez (λ _. bucket_head xs list ≡ 0 → ⊥) Y X
        (λ head f W. (sym (lt-ltb 0 (bucket_head xs list) (omega arith)), sym (lt-ltb 0 y (some W))))

-- the bucket was filled and is empty: its node's bit is clear, and the root's where the node is 0 then
module _
    (a : ℕ) (Z : Sizes a) (list : ℕ) (xs ys : List ℕ) (y : ℕ) (e : bucket_head xs list ≡ 0) (ey : ys ≡ put_word (541 + 4 * (a * a) + list / a) y xs)
    (Y : WithChild a (node_word a xs (list / a)) (list % a) false y)
  where
    empty : false ≡ ltb 0 (bucket_head xs list)
    empty = sym (le-ltb 0 (bucket_head xs list) (omega arith))

    -- the node was not 0 and is not: its bit is set already
    pub lower_one : (y ≡ 0 → ⊥) → Lowered a list xs ys
    lower_one f = record {
      size = y_size a Z list xs ys false y ey;
      words = λ i h. other i (omega arith);
      backs = λ _ k h. y_back a Z list xs ys false y ey k h;
      links = λ _ k h. y_link a Z list xs ys false y ey k h;
      tree = λ long l head was same T.
          let fy = Y.fits (T.node_fits (list / a) (node_in a Z list l)) in
          record {
            node_fits = y_fits a Z list xs ys false y ey long l Y fy T.node_fits;
            root_fits = λ r h. rw (other (264 + r) (omega arith)) (T.root_fits r h);
            leaves = y_leaves a Z list xs ys false y ey long l Y fy empty head same T.leaves;
            nodes =
                sums_filled a (16 * a + 32) (root_of xs) (node_word a xs) (root_of ys) (node_word a ys) (list / a)
                (some_above a (16 * (a * a) + 256) (node_word a xs) head list T.leaves l was)
                (λ z. f (sym (y_this a Z list xs ys false y ey long l Y fy) ∙ z))
                (λ k lk. other (264 + k / a) (let r = root_in a Z k lk in omega arith))
                (λ k lk ne. other (541 + 4 * (a * a) + k) (λ q. ne (omega arith)))
                T.nodes;
          };
    }
      where
        other : (i : ℕ) → (i ≡ 541 + 4 * (a * a) + list / a → ⊥) → word_at i ys ≡ word_at i xs
        other = y_other a Z list xs ys false y ey

    pub lower_two : (zs : List ℕ) (x : ℕ) → y ≡ 0 → zs ≡ put_word (264 + list / a / a) x ys
        → (WithChild a (root_of ys (list / a / a)) (list / a % a) false x) → Lowered a list xs zs
    lower_two zs x z ez X =
        two_bits a Z list xs ys false y ey zs x ez (λ head. head list ≡ 0 → ⊥) Y X (λ head was W. (empty, sym (le-ltb 0 y (omega arith))))

-- ---- with the numbers that the code has computed

module _
    (a : ℕ) (Z : Sizes a) (list : ℕ) (xs ys : List ℕ) (A n j i y : ℕ) (on : Bool) (eA : A ≡ a) (en : n ≡ 541 + 4 * (a * a)) (ej : j ≡ list / a) (ei : i ≡ list % a)
    (ey : ys ≡ put_word (n + j) y xs) (Y : i < A → A ≤ 64 → WithChild A (word_at (n + j) xs) i on y)
  where
    at_node : n + j ≡ 541 + 4 * (a * a) + list / a
    at_node = omega arith

    node_put : ys ≡ put_word (541 + 4 * (a * a) + list / a) y xs
    node_put = subst (λ (m : ℕ). ys ≡ put_word m y xs) at_node ey

    -- the child that a remainder by the arity is
    in_arity : (k m : ℕ) → k ≡ m % a → (k < A) × (A ≤ 64)
    in_arity k m e = let pa : 0 < a = omega (arith, Z.low) in let l = mod-lt m pa in (omega arith, omega (arith, Z.high))

    node_child : WithChild a (node_word a xs (list / a)) (list % a) on y
    node_child =
        let I = in_arity i list ei in
        subst (λ (m : ℕ). WithChild a (node_word a xs (list / a)) m on y) ei
        (subst (λ (m : ℕ). WithChild a (word_at m xs) i on y) at_node (subst (λ (m : ℕ). WithChild m (word_at (n + j) xs) i on y) eA (Y I.0 I.1)))

    module _ (zs : List ℕ) (h i' x : ℕ) (eh : h ≡ j / a) (ei' : i' ≡ j % a) (ez : zs ≡ put_word (264 + h) x ys)
        (X : i' < A → A ≤ 64 → WithChild A (word_at (264 + h) ys) i' on x) where
      at_root : h ≡ list / a / a
      at_root = eh ∙ ap (λ (m : ℕ). m / a) ej

      root_put : zs ≡ put_word (264 + list / a / a) x ys
      root_put = subst (λ (m : ℕ). zs ≡ put_word (264 + m) x ys) at_root ez

      root_child : WithChild a (root_of ys (list / a / a)) (list / a % a) on x
      root_child =
          let I = in_arity i' j ei' in
          subst (λ (m : ℕ). WithChild a (root_of ys (list / a / a)) m on x) (ei' ∙ ap (λ (m : ℕ). m % a) ej)
          (subst (λ (m : ℕ). WithChild a (root_of ys m) i' on x) at_root (subst (λ (m : ℕ). WithChild m (word_at (264 + h) ys) i' on x) eA (X I.0 I.1)))

pub raise_at : (a : ℕ) (Z : Sizes a) (list : ℕ) (xs ys : List ℕ) (A n j i y : ℕ) (eA : A ≡ a) (en : n ≡ 541 + 4 * (a * a)) (ej : j ≡ list / a) (ei : i ≡ list % a)
    (ey : ys ≡ put_word (n + j) y xs) (Y : i < A → A ≤ 64 → WithChild A (word_at (n + j) xs) i true y)
    (zs : List ℕ) (h i' x : ℕ) (eh : h ≡ j / a) (ei' : i' ≡ j % a) (ez : zs ≡ put_word (264 + h) x ys)
    (X : i' < A → A ≤ 64 → WithChild A (word_at (264 + h) ys) i' true x) → Raised a list xs zs
raise_at a Z list xs ys A n j i y eA en ej ei ey Y zs h i' x eh ei' ez X =
    raise_done a Z list xs ys zs y x (node_put a Z list xs ys A n j i y true eA en ej ei ey Y)
    (root_put a Z list xs ys A n j i y true eA en ej ei ey Y zs h i' x eh ei' ez X)
    (node_child a Z list xs ys A n j i y true eA en ej ei ey Y) (root_child a Z list xs ys A n j i y true eA en ej ei ey Y zs h i' x eh ei' ez X)

module _
    (a : ℕ) (Z : Sizes a) (list : ℕ) (xs ys : List ℕ) (A n j i y : ℕ) (e : bucket_head xs list ≡ 0)
    (eA : A ≡ a) (en : n ≡ 541 + 4 * (a * a)) (ej : j ≡ list / a) (ei : i ≡ list % a)
    (ey : ys ≡ put_word (n + j) y xs) (Y : i < A → A ≤ 64 → WithChild A (word_at (n + j) xs) i false y)
  where
    pub lower_one_at : (y ≡ 0 → ⊥) → Lowered a list xs ys
    lower_one_at =
        lower_one a Z list xs ys y e (node_put a Z list xs ys A n j i y false eA en ej ei ey Y) (node_child a Z list xs ys A n j i y false eA en ej ei ey Y)

    pub lower_two_at : y ≡ 0 → (zs : List ℕ) (h i' x : ℕ) (eh : h ≡ j / a) (ei' : i' ≡ j % a) (ez : zs ≡ put_word (264 + h) x ys)
        (X : i' < A → A ≤ 64 → WithChild A (word_at (264 + h) ys) i' false x) → Lowered a list xs zs
    lower_two_at z zs h i' x eh ei' ez X =
        lower_two a Z list xs ys y e (node_put a Z list xs ys A n j i y false eA en ej ei ey Y) (node_child a Z list xs ys A n j i y false eA en ej ei ey Y)
        zs x z (root_put a Z list xs ys A n j i y false eA en ej ei ey Y zs h i' x eh ei' ez X)
        (root_child a Z list xs ys A n j i y false eA en ej ei ey Y zs h i' x eh ei' ez X)
