-- The search of the first filled leaf in ring order, over the arity a: one argument for every shape.
use mathlib.Core.Path.{◌≡◌, refl, sym, ap, ◌∙◌, subst}
use mathlib.Core.Logic.{◌⊎◌, inl, inr}
use mathlib.Core.List.{List}
use Rattle.std.specs.Prelude.{Some, None}
use Prim.Native.Nat.{ℕ, suc, ◌+◌, ◌*◌, ◌/◌, ◌%◌, ◌^◌, ◌≤◌, ◌<◌}
use native.Mathlib.Nat.{mul-pos, div-div-eq-div-mul, div-add-mod', div-lt_iff_lt-mul, mul_assoc, mul-le-mul_right, suc-mul}
use native.Mathlib.Omega.{arith}
use lib.Arith.{mod-mul, digits_div, digits_mod, digits_lt}
use Rattle.calendar_bitmap.specs.Child.{Arity, child}
use Rattle.calendar_bitmap.specs.Promises.{FirstChild}
use Rattle.calendar_bitmap.proofs.ChildLaws.{first_fits}
use Rattle.calendar_shapes.specs.Rule.{arity_in}
use Rattle.calendar_shapes.proofs.Powers.{row_arity, same_row}
use Rattle.words.proofs.Cases.{eq_or, lt_or}
use Rattle.calendar_cells.specs.Cells.{word_at}
use Rattle.calendar_cells.specs.Tree.{Sums}
use Rattle.calendar_cells.specs.Table.{node_word, root_of, bucket_head, Table}
use Rattle.calendar_search.specs.Promises.{blocks_to, LeafFound, FirstLeaf}
use Rattle.calendar_search.specs.Steps.{LeafUnder}
use Rattle.calendar_cells.proofs.TreeLaws.{set_above, some_above, some_below}
use Rattle.calendar_cells.proofs.TableLaws.{table_sizes, table_arity}

module _
    (a : ℕ) (pa : 0 < a) (buckets nodes : ℕ) (lb : 16 * (a * a) ≤ buckets) (ln : 16 * a ≤ nodes)
    (leaf node root : ℕ → ℕ) (leaves : Sums a buckets node leaf) (tops : Sums a nodes root node)
  where
    paa : 0 < a * a
    paa = mul-pos pa pa

    abbrev Filled : ℕ → Type 0
    Filled k = leaf k ≡ 0 → ⊥

    -- no filled leaf lies in the first i blocks from the slot
    abbrev pub Passed : ℕ → ℕ → Type 0
    Passed slot i = (k : ℕ) → k < 16 * (a * a) → Filled k → i ≤ blocks_to a slot k

    block_lt : (k : ℕ) → k < 16 * (a * a) → k / (a * a) < 16
    block_lt k l = (div-lt_iff_lt-mul paa).1 l

    over : (k : ℕ) → k / a / a ≡ k / (a * a)
    over k = div-div-eq-div-mul k a a

    node_lt : (k : ℕ) → k < 16 * (a * a) → k / a < 16 * a
    node_lt k l = (div-lt_iff_lt-mul pa).1 (subst (λ m. k < m) (sym (mul_assoc 16 a a)) l)

    node_above : (k : ℕ) → k < 16 * (a * a) → Filled k → node (k / a) ≡ 0 → ⊥
    node_above k l f = some_above a buckets node leaf k leaves (omega arith) f

    root_above : (k : ℕ) → k < 16 * (a * a) → Filled k → root (k / (a * a)) ≡ 0 → ⊥
    root_above k l f z =
        some_above a nodes root node (k / a) tops (let q = node_lt k l in omega arith) (node_above k l f) (ap root (over k) ∙ z)

    node_bit : (k : ℕ) → k < 16 * (a * a) → Filled k → child a (node (k / a)) (k % a) ≡ 1
    node_bit k l f = set_above a buckets node leaf k leaves (omega arith) f

    root_bit : (k : ℕ) → k < 16 * (a * a) → Filled k → child a (root (k / (a * a))) (k / a % a) ≡ 1
    root_bit k l f =
        ap (λ m. child a (root m) (k / a % a)) (sym (over k))
        ∙ set_above a nodes root node (k / a) tops (let q = node_lt k l in omega arith) (node_above k l f)

    module _ (slot i : ℕ) (ls : slot < 16) (li : i < 16) (P : Passed slot i) where
      r : ℕ
      r = (slot + i) % 16

      lr : (slot + i) % 16 < 16
      lr = omega arith

      here : (k : ℕ) → k < 16 * (a * a) → blocks_to a slot k ≡ i → k / (a * a) ≡ (slot + i) % 16
      here k l e = let q = block_lt k l in omega arith

      pub pass_on : root ((slot + i) % 16) ≡ 0 → Passed slot (i + 1)
      pass_on z k l f = go (eq_or (blocks_to a slot k) i) (P k l f)
        where
          go : (blocks_to a slot k ≡ i) ⊎ (blocks_to a slot k ≡ i → ⊥) → i ≤ blocks_to a slot k → i + 1 ≤ blocks_to a slot k
          go (inl e) p = absurd (root_above k l f (ap root (here k l e) ∙ z))
          go (inr n) p = omega arith

      module _ (f g : ℕ) (nz : root ((slot + i) % 16) ≡ 0 → ⊥) (F : FirstChild a (root ((slot + i) % 16)) f)
          (G : FirstChild a (node ((slot + i) % 16 * a + f)) g) where
        lf : f < a
        lf = F.some nz

        j_lt : (slot + i) % 16 * a + f < 16 * a
        j_lt = digits_lt lr lf

        y_some : node ((slot + i) % 16 * a + f) ≡ 0 → ⊥
        y_some =
            some_below a nodes root node ((slot + i) % 16 * a + f) tops (let q = j_lt in omega arith)
            (ap (λ m. child a (root m) (((slot + i) % 16 * a + f) % a)) (digits_div ((slot + i) % 16) lf)
            ∙ ap (child a (root ((slot + i) % 16))) (digits_mod ((slot + i) % 16) lf) ∙ F.set lf)

        lg : g < a
        lg = G.some y_some

        l_lt : ((slot + i) % 16 * a + f) * a + g < 16 * (a * a)
        l_lt = subst (λ m. ((slot + i) % 16 * a + f) * a + g < m) (mul_assoc 16 a a) (digits_lt j_lt lg)

        pub filled : leaf (((slot + i) % 16 * a + f) * a + g) ≡ 0 → ⊥
        filled =
            some_below a buckets node leaf (((slot + i) % 16 * a + f) * a + g) leaves (let q = l_lt in omega arith)
            (ap (λ m. child a (node m) ((((slot + i) % 16 * a + f) * a + g) % a)) (digits_div ((slot + i) % 16 * a + f) lg)
            ∙ ap (child a (node ((slot + i) % 16 * a + f))) (digits_mod ((slot + i) % 16 * a + f) lg) ∙ G.set lg)

        l_block : (((slot + i) % 16 * a + f) * a + g) / (a * a) ≡ (slot + i) % 16
        l_block = sym (over _) ∙ ap (λ m. m / a) (digits_div ((slot + i) % 16 * a + f) lg) ∙ digits_div ((slot + i) % 16) lf

        -- it lies i blocks further: i + 2 words are read
        pub blocks : blocks_to a slot (((slot + i) % 16 * a + f) * a + g) ≡ i
        blocks = let q = l_block in omega arith

        place : (k : ℕ) → k % (a * a) ≡ k / a % a * a + k % a
        place k = mod-mul k {m = a} {c = a} pa pa

        l_place : (((slot + i) % 16 * a + f) * a + g) % (a * a) ≡ f * a + g
        l_place =
            place _ ∙ ap (λ m. m % a * a + (((slot + i) % 16 * a + f) * a + g) % a) (digits_div ((slot + i) % 16 * a + f) lg)
            ∙ ap (λ m. m * a + (((slot + i) % 16 * a + f) * a + g) % a) (digits_mod ((slot + i) % 16) lf)
            ∙ ap (λ m. f * a + m) (digits_mod ((slot + i) % 16 * a + f) lg)

        -- a filled leaf of that block is not before it
        pub same_block : (k : ℕ) → k < 16 * (a * a) → Filled k → blocks_to a slot k ≡ i
            → (((slot + i) % 16 * a + f) * a + g) % (a * a) ≤ k % (a * a)
        same_block k l fk e = subst (λ m. m ≤ k % (a * a)) (sym l_place) (subst (λ m. f * a + g ≤ m) (sym (place k)) (go (lt_or (k / a % a) f) (eq_or (k / a % a) f) (lt_or (k % a) g)))
          where
            q : k / (a * a) ≡ (slot + i) % 16
            q = here k l e

            go : (k / a % a < f) ⊎ (f ≤ k / a % a) → (k / a % a ≡ f) ⊎ (k / a % a ≡ f → ⊥) → (k % a < g) ⊎ (g ≤ k % a) → f * a + g ≤ k / a % a * a + k % a
            go (inl h) _ _ =
                let b : ◌≡◌ {A = ℕ} 1 0 =
                sym (root_bit k l fk) ∙ ap (λ m. child a (root m) (k / a % a)) q ∙ F.before (k / a % a) h in
                absurd (omega arith)
            go (inr h) (inr n) _ =
                let m : suc f * a ≤ k / a % a * a = mul-le-mul_right a (omega arith) in
                let t = lg in
                omega (arith, suc-mul f a)
            go (inr h) (inl n) (inr m) = let z = ap (λ y. y * a) n in omega arith
            go (inr h) (inl n) (inl m) =
                let kj : k / a ≡ (slot + i) % 16 * a + f =
                sym (div-add-mod' (k / a) a) ∙ ap (λ y. y * a + k / a % a) (over k ∙ q) ∙ ap (λ y. (slot + i) % 16 * a + y) n in
                let b : ◌≡◌ {A = ℕ} 1 0 = sym (node_bit k l fk) ∙ ap (λ u. child a (node u) (k % a)) kj ∙ G.before (k % a) m in
                absurd (omega arith)

        pub found_lt : ((slot + i) % 16 * a + f) * a + g < 16 * (a * a)
        found_lt = l_lt

-- ---- the table's leaves

module _ (a : ℕ) (xs : List ℕ) (T : Table a xs) where
  pa' : 0 < a
  pa' = omega (arith, (table_sizes T).low)

  abbrev pub Clear : ℕ → ℕ → Type 0
  Clear slot i = (k : ℕ) → k < 16 * (a * a) → (bucket_head xs k ≡ 0 → ⊥) → i ≤ blocks_to a slot k

  pub clear_start : (slot : ℕ) → Clear slot 0
  clear_start slot k l f = omega arith

  pub clear_end : (slot i : ℕ) → 16 ≤ i → Clear slot i → FirstLeaf a xs slot None 16
  clear_end slot i h P = (λ k l. go k l (eq_or (bucket_head xs k) 0), refl)
    where
      go : (k : ℕ) → k < 16 * (a * a) → (bucket_head xs k ≡ 0) ⊎ (bucket_head xs k ≡ 0 → ⊥) → bucket_head xs k ≡ 0
      go k l (inl e) = e
      go k l (inr f) = absurd (let p = P k l f in omega arith)

  module _ (slot i x : ℕ) (ls : slot < 16) (li : i < 16) (P : Clear slot i) (ex : x ≡ root_of xs ((slot + i) % 16)) where
    pub clear_on : x ≡ 0 → Clear slot (i + 1)
    clear_on z =
        pass_on a pa' (16 * (a * a) + 256) (16 * a + 32) (omega arith) (omega arith) (bucket_head xs) (node_word a xs) (root_of xs) T.tree.leaves T.tree.nodes
        slot i ls li P (sym ex ∙ z)

    module _ (f y g : ℕ) (nz : x ≡ 0 → ⊥) (F : FirstChild a x f) (ey : y ≡ node_word a xs ((slot + i) % 16 * a + f)) (G : FirstChild a y g) where
      F' : FirstChild a (root_of xs ((slot + i) % 16)) f
      F' = subst (λ (m : ℕ). FirstChild a m f) ex F

      G' : FirstChild a (node_word a xs ((slot + i) % 16 * a + f)) g
      G' = subst (λ (m : ℕ). FirstChild a m g) ey G

      nz' : root_of xs ((slot + i) % 16) ≡ 0 → ⊥
      nz' z = nz (ex ∙ z)

      pub clear_stop : LeafFound a xs slot (((slot + i) % 16 * a + f) * a + g) (i + 2)
      clear_stop = record {
        within = lt;
        read = ap (λ (m : ℕ). m + 2) (sym here);
        filled =
            filled a pa' (16 * (a * a) + 256) (16 * a + 32) (omega arith) (omega arith) (bucket_head xs) (node_word a xs) (root_of xs) T.tree.leaves T.tree.nodes
            slot i ls li P f g nz' F' G';
        first = λ k l fk. go k l fk (eq_or (blocks_to a slot k) i);
      }
        where
          lt : ((slot + i) % 16 * a + f) * a + g < 16 * (a * a)
          lt =
              found_lt a pa' (16 * (a * a) + 256) (16 * a + 32) (omega arith) (omega arith) (bucket_head xs) (node_word a xs) (root_of xs) T.tree.leaves T.tree.nodes
              slot i ls li P f g nz' F' G'

          here : blocks_to a slot (((slot + i) % 16 * a + f) * a + g) ≡ i
          here =
              blocks a pa' (16 * (a * a) + 256) (16 * a + 32) (omega arith) (omega arith) (bucket_head xs) (node_word a xs) (root_of xs) T.tree.leaves T.tree.nodes
              slot i ls li P f g nz' F' G'

          go : (k : ℕ) → k < 16 * (a * a) → (bucket_head xs k ≡ 0 → ⊥) → (blocks_to a slot k ≡ i) ⊎ (blocks_to a slot k ≡ i → ⊥)
              → (blocks_to a slot (((slot + i) % 16 * a + f) * a + g) < blocks_to a slot k)
              ⊎ ((blocks_to a slot (((slot + i) % 16 * a + f) * a + g) ≡ blocks_to a slot k) × ((((slot + i) % 16 * a + f) * a + g) % (a * a) ≤ k % (a * a)))
          go k l fk (inl e) =
              inr (
                here ∙ sym e,
                same_block a pa' (16 * (a * a) + 256) (16 * a + 32) (omega arith) (omega arith) (bucket_head xs) (node_word a xs) (root_of xs) T.tree.leaves T.tree.nodes
                    slot i ls li P f g nz' F' G' k l fk e,
              )
          go k l fk (inr n) = inl (strict (blocks_to a slot (((slot + i) % 16 * a + f) * a + g)) (blocks_to a slot k) here n (P k l fk))
            where
              strict : (u v : ℕ) → u ≡ i → (v ≡ i → ⊥) → i ≤ v → u < v
              strict u v e ne h = omega arith

  pub stop_at : (slot i x l : ℕ) (ls : slot < 16) (li : i < 16) (P : Clear slot i) (ex : x ≡ root_of xs ((slot + i) % 16)) → (x ≡ 0 → ⊥)
      → LeafUnder a xs ((slot + i) % 16) x l → FirstLeaf a xs slot (Some l) (i + 2)
  stop_at slot i x l ls li P ex nz U =
      let K = table_arity T in
      let F : FirstChild a x U.node = first_fits (λ _. U.node_is) K (rw ex (T.tree.root_fits ((slot + i) % 16) (omega arith))) in
      let d : (slot + i) % 16 * a + U.node < 16 * a = digits_lt (omega arith) (F.some nz) in
      let G : FirstChild a (node_word a xs ((slot + i) % 16 * a + U.node)) U.leaf =
      first_fits (λ _. U.leaf_is) K (T.tree.node_fits ((slot + i) % 16 * a + U.node) (omega arith)) in
      subst (λ (m : ℕ). LeafFound a xs slot m (i + 2)) (sym U.at) (clear_stop slot i x ls li P ex U.node _ U.leaf nz F refl G)

-- ---- the leaf under a root

-- with the numbers that the code has computed
pub leaf_at : (row : ℕ) (xs : List ℕ) (r x A f n j y g l : ℕ) → A ≡ arity_in row → (Arity A → FirstChild A (x % 2 ^ A) f)
    → n ≡ 541 + 4 * (arity_in row * arity_in row) → j ≡ r * arity_in row → y ≡ word_at (n + (j + f)) xs → (Arity A → FirstChild A (y % 2 ^ A) g)
    → l ≡ (j + f) * arity_in row → LeafUnder (arity_in row) xs r x (l + g)
leaf_at row xs r x A f n j y g l eA F en ej ey G el =
    let a : ℕ = arity_in row in
    let c : n + (j + f) ≡ 541 + 4 * (a * a) + (r * a + f) = omega arith in
    let e : y ≡ node_word a xs (r * a + f) = ey ∙ ap (λ (m : ℕ). word_at m xs) c in
    record {
      node = f;
      leaf = g;
      node_is = subst (λ (m : ℕ). Arity m → FirstChild m (x % 2 ^ m) f) eA F (row_arity row);
      leaf_is =
          subst (λ (m : ℕ). FirstChild a (m % 2 ^ a) g) e
          (subst (λ (m : ℕ). Arity m → FirstChild m (y % 2 ^ m) g) eA G (row_arity row));
      at = ap (λ (m : ℕ). m + g) (el ∙ ap (λ (m : ℕ). (m + f) * a) ej);
    }

-- one law for the rows that are one modulo 4
pub by_rows : (i row : ℕ) {xs : List ℕ} {r x l : ℕ} → row % 4 ≡ i % 4 → LeafUnder (arity_in i) xs r x l → LeafUnder (arity_in row) xs r x l
by_rows i row {xs} {r} {x} {l} e = subst (λ (m : ℕ). LeafUnder m xs r x l) (same_row i row e)
