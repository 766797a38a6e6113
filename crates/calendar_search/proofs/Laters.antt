-- The walk of `later` along the bits of the overflow table: a station that waits has its bit set.
use mathlib.Core.Path.{◌≡◌, sym, ap, ◌∙◌, subst}
use mathlib.Core.Logic.{◌⊎◌, inl, inr}
use mathlib.Core.List.{List}
use Rattle.std.specs.Prelude.{Option, Some, None}
use Prim.Native.Nat.{ℕ, ◌+◌, ◌*◌, ◌/◌, ◌%◌, ◌≤◌, ◌<◌}
use native.Mathlib.Nat.{mod-lt, div-add-mod', div-eq_of_lt-le, add-mul, suc-mul, mul_assoc}
use native.Mathlib.Omega.{arith}
use Rattle.calendar_bitmap.specs.Child.{Arity, child}
use Rattle.calendar_bitmap.specs.Promises.{FirstFrom}
use lib.Arith.{digits_div, digits_mod}
use Rattle.calendar_shapes.specs.Rule.{arity_in}
use Rattle.calendar_shapes.proofs.Powers.{row_sizes, row_arity, same_row}
use Rattle.calendar_cells.specs.Cells.{word_at}
use Rattle.calendar_cells.specs.Table.{bytes_for, node_word, bucket_head, Table, Waits}
use Rattle.calendar_search.specs.Promises.{NoneTo, Later}
use Rattle.words.proofs.Cases.{lt_or}
use Rattle.calendar_cells.proofs.TreeLaws.{set_above, some_below}
use Rattle.calendar_cells.proofs.TableLaws.{table_sizes, by_row}
use Rattle.calendar_cells.proofs.Heads.{waits_head, head_waits}

pub none_start : (a : ℕ) (xs : List ℕ) (from : ℕ) → NoneTo a xs from from
none_start a xs from x l h c w = omega arith

pub none_end : (a : ℕ) (xs : List ℕ) (from s : ℕ) → 256 ≤ s → NoneTo a xs from s → Later a xs from None
none_end a xs from s h N x l b c w = N x l b (omega arith) w

-- a node's children end at 256
pub child_within : (a s c : ℕ) → Arity a → s < 256 → c < a → s / a * a + c < 256
child_within a s c (inl e) l = subst (λ (m : ℕ). c < m → s / m * m + c < 256) (sym e) (λ h. omega arith)
child_within a s c (inr (inl e)) l = subst (λ (m : ℕ). c < m → s / m * m + c < 256) (sym e) (λ h. omega arith)
child_within a s c (inr (inr (inl e))) l = subst (λ (m : ℕ). c < m → s / m * m + c < 256) (sym e) (λ h. omega arith)
child_within a s c (inr (inr (inr e))) l = subst (λ (m : ℕ). c < m → s / m * m + c < 256) (sym e) (λ h. omega arith)

module _ (a : ℕ) (xs : List ℕ) (T : Table a xs) where
  pa : 0 < a
  pa = omega (arith, (table_sizes T).low)

  -- the node and the child of bucket 16 * (a * a) + x
  over_split : (x : ℕ) → 16 * (a * a) + x ≡ (16 * a + x / a) * a + x % a
  over_split x = omega (arith, add-mul (16 * a) (x / a) a, mul_assoc 16 a a, div-add-mod' x a)

  over_node : (x : ℕ) → (16 * (a * a) + x) / a ≡ 16 * a + x / a
  over_node x = ap (λ (m : ℕ). m / a) (over_split x) ∙ digits_div (16 * a + x / a) (mod-lt x pa)

  over_child : (x : ℕ) → (16 * (a * a) + x) % a ≡ x % a
  over_child x = ap (λ (m : ℕ). m % a) (over_split x) ∙ digits_mod (16 * a + x / a) (mod-lt x pa)

  -- the bit of station x
  bit_set : (x : ℕ) → x < 256 → Waits a xs x → child a (node_word a xs (16 * a + x / a)) (x % a) ≡ 1
  bit_set x l w =
      ap (λ (m : ℕ). child a (node_word a xs m) (x % a)) (sym (over_node x)) ∙ ap (child a (node_word a xs ((16 * (a * a) + x) / a))) (sym (over_child x))
      ∙ set_above a (16 * (a * a) + 256) (node_word a xs) (bucket_head xs) (16 * (a * a) + x) T.tree.leaves (omega arith) (waits_head a xs T x l w)

  bit_waits : (x : ℕ) → x < 256 → child a (node_word a xs (16 * a + x / a)) (x % a) ≡ 1 → Waits a xs x
  bit_waits x l e =
      head_waits a xs T x l
      (some_below a (16 * (a * a) + 256) (node_word a xs) (bucket_head xs) (16 * (a * a) + x) T.tree.leaves (omega arith)
      (ap (child a (node_word a xs ((16 * (a * a) + x) / a))) (over_child x) ∙ ap (λ (m : ℕ). child a (node_word a xs m) (x % a)) (over_node x) ∙ e))

  module _ (from s y c : ℕ) (N : NoneTo a xs from s) (ey : y ≡ node_word a xs (16 * a + s / a)) (F : FirstFrom a y (s % a) c) where
    -- none waits from s on below c in the node
    skipped : (x : ℕ) → s ≤ x → x < 256 → x / a ≡ s / a → x % a < c → Waits a xs x → ⊥
    skipped x h b e k w =
        let q = ap (λ (m : ℕ). m * a) e in
        let z : ◌≡◌ {A = ℕ} 1 0 =
        sym (bit_set x b w) ∙ ap (λ (m : ℕ). child a (node_word a xs (16 * a + m)) (x % a)) e ∙ ap (λ (m : ℕ). child a m (x % a)) (sym ey)
        ∙ F.before (x % a) (omega (arith, div-add-mod' x a, div-add-mod' s a)) k in
        omega arith

    -- a station from s on below the node's end has s's node
    node_of : (x : ℕ) → s ≤ x → x < s / a * a + a → x / a ≡ s / a
    node_of x h k = div-eq_of_lt-le a (omega (arith, div-add-mod' s a)) (omega (arith, suc-mul (s / a) a))

    pub none_on : a ≤ c → NoneTo a xs from (s / a * a + a)
    none_on h x l b k w = go (lt_or x s)
      where
        go : (x < s) ⊎ (s ≤ x) → ⊥
        go (inl m) = N x l b m w
        go (inr m) = skipped x m b (node_of x m k) (omega (arith, mod-lt x pa)) w

    pub found : s / a * a + c < 256 → c < a → Later a xs from (Some (s / a * a + c))
    found l h =
        let d : (s / a * a + c) / a ≡ s / a = digits_div (s / a) h in
        let m : (s / a * a + c) % a ≡ c = digits_mod (s / a) h in (
          l,
          bit_waits (s / a * a + c) l
              (ap (λ (u : ℕ). child a (node_word a xs (16 * a + u)) ((s / a * a + c) % a)) d ∙ ap (child a (node_word a xs (16 * a + s / a))) m
              ∙ ap (λ (u : ℕ). child a u c) (sym ey) ∙ F.set h),
          λ x l b k w. go x l b k w (lt_or x s),
        )
      where
        go : (x : ℕ) → from ≤ x → x < 256 → x < s / a * a + c → Waits a xs x → (x < s) ⊎ (s ≤ x) → ⊥
        go x l b k w (inl m) = N x l b m w
        go x l b k w (inr m) =
            let e = node_of x m (omega arith) in
            let q = ap (λ (u : ℕ). u * a) e in
            skipped x m b e (omega (arith, div-add-mod' x a)) w

-- ---- with the numbers that the code has computed

module _ (row A s j i c m : ℕ) (eA : A ≡ arity_in row) (ej : j ≡ s / arity_in row) (ei : i ≡ s % arity_in row) (em : m ≡ j * arity_in row) where
  at_first : m ≡ s / arity_in row * arity_in row
  at_first = em ∙ ap (λ (u : ℕ). u * arity_in row) ej

  pub from_least : {y : ℕ} → (Arity A → FirstFrom A y i c) → c < A → s ≤ m + c
  from_least F h =
      let K : Arity A = rw eA (row_arity row) in
      let l = (F K).from h in
      omega (arith, at_first, div-add-mod' s (arity_in row))

  pub child_in : s < 256 → c < A → m + c < 256
  child_in l h =
      let p : c < arity_in row = omega arith in
      omega (arith, at_first, child_within (arity_in row) s c (row_arity row) l p)

  pub from_next : s < m + A
  from_next =
      let p : 0 < arity_in row = omega (arith, (row_sizes row).low) in
      omega (arith, at_first, div-add-mod' s (arity_in row), mod-lt s p)

module _
    (row : ℕ) (xs : List ℕ) (T : Table (arity_in row) xs) (from A s j i c m n y : ℕ) (eA : A ≡ arity_in row) (ej : j ≡ s / arity_in row)
    (ei : i ≡ s % arity_in row) (em : m ≡ j * arity_in row) (en : n ≡ 541 + 4 * (arity_in row * arity_in row)) (ey : y ≡ word_at (n + 16 * A + j) xs)
    (N : NoneTo (arity_in row) xs from s) (F : Arity A → FirstFrom A y i c)
  where
    em' : m ≡ s / arity_in row * arity_in row
    em' = em ∙ ap (λ (u : ℕ). u * arity_in row) ej

    ey' : y ≡ node_word (arity_in row) xs (16 * arity_in row + s / arity_in row)
    ey' =
        let c : n + 16 * A + j ≡ 541 + 4 * (arity_in row * arity_in row) + (16 * arity_in row + s / arity_in row) = omega arith in
        ey ∙ ap (λ (u : ℕ). word_at u xs) c

    F' : FirstFrom (arity_in row) y (s % arity_in row) c
    F' = subst (λ (u : ℕ). FirstFrom (arity_in row) y u c) ei (subst (λ (u : ℕ). Arity u → FirstFrom u y i c) eA F (row_arity row))

    pub found_at : m + c < 256 → c < A → Later (arity_in row) xs from (Some (m + c))
    found_at l h = rw em' (found (arity_in row) xs T from s y c N ey' F' (rw em' at l) (rw eA at h))

    pub none_at : A ≤ c → NoneTo (arity_in row) xs from (m + A)
    none_at h = rw (em', eA) (none_on (arity_in row) xs T from s y c N ey' F' (rw eA at h))

-- ---- by the row of the bytes

pub later_short : (i : ℕ) {n : ℕ} {r : Option ℕ} → (n < bytes_for (arity_in i) → r ≡ None) → n < 7656 → r ≡ None
later_short i S l = S (omega (arith, (row_sizes i).low, (row_sizes i).square))

pub later_row : (i row : ℕ) (xs : List ℕ) (from : ℕ) (r : Option ℕ) → row ≡ word_at 7 xs → row % 4 ≡ i % 4 → (Table (arity_in i) xs → Later (arity_in i) xs from r)
    → (a : ℕ) → Table a xs → Later a xs from r
later_row i row xs from r e q L a T =
    let k : a ≡ arity_in i = by_row a row xs e T ∙ sym (same_row i row q) in
    subst (λ (m : ℕ). Later m xs from r) (sym k) (L (subst (λ (m : ℕ). Table m xs) k T))
