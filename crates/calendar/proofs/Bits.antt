-- On a calendar's bytes a bit is set exactly when something is registered below it.
use mathlib.Core.Path.{◌≡◌, refl, sym, ap, ap₂, ◌∙◌, subst}
use mathlib.Core.Logic.{◌↔◌}
use mathlib.Core.Option.{none, some}
use mathlib.Core.List.{List}
use Prim.Native.Nat.{ℕ, suc, ◌+◌, ◌-◌, ◌*◌, ◌/◌, ◌%◌, ◌^◌, ◌<◌}
use native.Mathlib.Nat.{mul-pos, mul_assoc, add-mul, mod-lt, div-add-mod'}
use native.Mathlib.Omega.{arith}
use lib.Arith.{digits_lt, digits_div, digits_mod}
use lib.ListN.{get_or}
use lib.Count.{count_leading_zeros}
use Rattle.calendar_bitmap.specs.Child.{child}
use Rattle.calendar_bitmap.proofs.ChildLaws.{leading_first}
use Rattle.calendar_cells.specs.Table.{arity_of, due_of, bucket_of, node_word, root_of, bucket_head, Due, Table}
use Rattle.calendar_cells.proofs.TreeLaws.{set_above, some_above, some_below}
use Rattle.calendar_cells.proofs.Heads.{head_station, head_some}
use Rattle.calendar_ring.specs.Ring.{slot_of_time, leaf_in, ring_end}
use Rattle.calendar_header.specs.Rules.{Calendar}
use Rattle.calendar_header.specs.Bytes.{width_of, limit_of, Sound, state_of}
use Rattle.calendar_header.proofs.Leaves.{ring_leaf}
use Rattle.calendar_header.proofs.Homes.{arity_pos, home_in, in_ring}
use Rattle.calendar_header.proofs.States.{time_at, time_of}

-- a station is registered at a time of the ring in slot r, in a leaf of the block of which P holds
pub record RegisteredIn (q : Calendar) (r : ℕ) (P : ℕ → Type 0) : Type 0 where
  pub station : ℕ
  pub time : ℕ
  pub has : get_or q.times station none ≡ some time
  pub ring : time < ring_end q.arity q.width q.floor
  pub slot : slot_of_time q.arity q.width time ≡ r
  pub leaf : P (leaf_in q.arity q.width time)

-- a word of a bits that is not 0 has a child that is set
pub some_set : (a x : ℕ) → x < 2 ^ a → (x ≡ 0 → ⊥) → (k : ℕ) × (k < a) × (child a x k ≡ 1)
some_set a x l nz = let F = leading_first a x l in (count_leading_zeros a x, F.some nz, F.set (F.some nz))

-- ---- the bits over the heads

-- leaf k of node i of slot r
abbrev leaf_under : ℕ → ℕ → ℕ → ℕ → ℕ
leaf_under a r i k = (r * a + i) * a + k

module _ (a r i : ℕ) (lr : r < 16) (li : i < a) where
  node_lt : r * a + i < 16 * a
  node_lt = digits_lt lr li

  node_within : r * a + i < 16 * a + 32
  node_within = omega (arith, node_lt)

  leaf_lt : (k : ℕ) → k < a → leaf_under a r i k < 16 * (a * a)
  leaf_lt k lk = subst (λ (y : ℕ). leaf_under a r i k < y) (mul_assoc 16 a a) (digits_lt node_lt lk)

  leaf_within : (k : ℕ) → k < a → leaf_under a r i k < 16 * (a * a) + 256
  leaf_within k lk = omega (arith, leaf_lt k lk)

  -- a block's leaves are those of its nodes
  leaf_at : (k : ℕ) → leaf_under a r i k ≡ r * (a * a) + (i * a + k)
  leaf_at k = omega (arith, add-mul (r * a) i a, mul_assoc r a a)

  module _ (xs : List ℕ) (T : Table a xs) where
    some_child : (node_word a xs (r * a + i) ≡ 0 → ⊥) → (k : ℕ) × (k < a) × (child a (node_word a xs (r * a + i)) k ≡ 1)
    some_child nz = some_set a (node_word a xs (r * a + i)) (T.tree.node_fits (r * a + i) node_within) nz

    node_head : (k : ℕ) → k < a → child a (node_word a xs (r * a + i)) k ≡ 1 → bucket_head xs (leaf_under a r i k) ≡ 0 → ⊥
    node_head k lk e =
        some_below a (16 * (a * a) + 256) (node_word a xs) (bucket_head xs) (leaf_under a r i k) T.tree.leaves (leaf_within k lk)
        (ap₂ (λ (x y : ℕ). child a (node_word a xs x) y) (digits_div (r * a + i) lk) (digits_mod (r * a + i) lk) ∙ e)

    head_node : (k : ℕ) → k < a → (bucket_head xs (leaf_under a r i k) ≡ 0 → ⊥) → child a (node_word a xs (r * a + i)) k ≡ 1
    head_node k lk nz =
        sym (ap₂ (λ (x y : ℕ). child a (node_word a xs x) y) (digits_div (r * a + i) lk) (digits_mod (r * a + i) lk))
        ∙ set_above a (16 * (a * a) + 256) (node_word a xs) (bucket_head xs) (leaf_under a r i k) T.tree.leaves (leaf_within k lk) nz

    root_node : child a (root_of xs r) i ≡ 1 → node_word a xs (r * a + i) ≡ 0 → ⊥
    root_node e =
        some_below a (16 * a + 32) (root_of xs) (node_word a xs) (r * a + i) T.tree.nodes node_within
        (ap₂ (λ (x y : ℕ). child a (root_of xs x) y) (digits_div r li) (digits_mod r li) ∙ e)

    head_root : (k : ℕ) → k < a → (bucket_head xs (leaf_under a r i k) ≡ 0 → ⊥) → child a (root_of xs r) i ≡ 1
    head_root k lk nz =
        sym (ap₂ (λ (x y : ℕ). child a (root_of xs x) y) (digits_div r li) (digits_mod r li))
        ∙ set_above a (16 * a + 32) (root_of xs) (node_word a xs) (r * a + i) T.tree.nodes node_within
        (λ z. some_above a (16 * (a * a) + 256) (node_word a xs) (bucket_head xs) (leaf_under a r i k) T.tree.leaves (leaf_within k lk) nz
        (ap (node_word a xs) (digits_div (r * a + i) lk) ∙ z))

-- ---- the bits over the times

-- a leaf of the ring is its block's slot and its place there
digits : (a w t r c : ℕ) → 0 < a → c < a * a → ring_leaf a w t ≡ r * (a * a) + c → (slot_of_time a w t ≡ r) × (leaf_in a w t ≡ c)
digits a w t r c p lc e =
    let l : leaf_in a w t < a * a = mod-lt (t / w) (mul-pos p p) in (
      sym (digits_div (slot_of_time a w t) l) ∙ ap (λ (y : ℕ). y / (a * a)) e ∙ digits_div r lc,
      sym (digits_mod (slot_of_time a w t) l) ∙ ap (λ (y : ℕ). y % (a * a)) e ∙ digits_mod r lc,
    )

module _ (xs : List ℕ) (S : Sound xs) (r i : ℕ) (lr : r < 16) (li : i < arity_of xs) where
  -- a filled leaf has a station
  filled_registered : (k : ℕ) → k < arity_of xs → (P : ℕ → Type 0) → P (i * arity_of xs + k) → (bucket_head xs (leaf_under (arity_of xs) r i k) ≡ 0 → ⊥)
      → RegisteredIn (state_of xs) r P
  unfolding state_of
  filled_registered k lk P p nz =
      let e : bucket_head xs (leaf_under (arity_of xs) r i k) ≡ suc (bucket_head xs (leaf_under (arity_of xs) r i k) - 1) = omega arith in
      go (bucket_head xs (leaf_under (arity_of xs) r i k) - 1)
      (head_station (arity_of xs) xs S.table (leaf_under (arity_of xs) r i k) (bucket_head xs (leaf_under (arity_of xs) r i k) - 1)
      (leaf_within (arity_of xs) r i lr li k lk) e)
    where
      go : (h : ℕ) → (h < 256) × (Due xs h) × (bucket_of xs h ≡ leaf_under (arity_of xs) r i k) → RegisteredIn (state_of xs) r P
      go h H =
          let R = in_ring xs S h H.0 H.1 (omega (arith, H.2, leaf_lt (arity_of xs) r i lr li k lk)) in
          let D = digits (arity_of xs) (width_of xs) (due_of xs h - 1) r (i * arity_of xs + k) (arity_pos xs S) (digits_lt li lk)
          (sym R.1 ∙ H.2 ∙ leaf_at (arity_of xs) r i lr li k) in
          record {
            station = h;
            time = due_of xs h - 1;
            has = time_at xs S h H.0 H.1;
            ring = subst (λ (y : ℕ). due_of xs h - 1 < y) S.header.limit_is R.0;
            slot = D.0;
            leaf = subst P (sym D.1) p;
          }

  -- a registered station's leaf is filled
  registered_filled : (k : ℕ) → (P : ℕ → Type 0) → (G : RegisteredIn (state_of xs) r P)
      → leaf_in (state_of xs).arity (state_of xs).width G.time ≡ i * arity_of xs + k → bucket_head xs (leaf_under (arity_of xs) r i k) ≡ 0 → ⊥
  unfolding state_of
  registered_filled k P G e =
      let N = time_of xs S G.station G.time G.has in
      let t : due_of xs G.station - 1 ≡ G.time = omega (arith, N.2) in
      let due : Due xs G.station = λ z. absurd (omega (arith, N.2)) in
      let b : bucket_of xs G.station ≡ leaf_under (arity_of xs) r i k =
      S.homes G.station N.1 due
      ∙ home_in (arity_of xs) (width_of xs) (limit_of xs) (due_of xs G.station - 1) G.station (arity_pos xs S) (rw (t, S.header.limit_is) G.ring)
      ∙ ap (ring_leaf (arity_of xs) (width_of xs)) t ∙ ap₂ (λ (x y : ℕ). x * (arity_of xs * arity_of xs) + y) G.slot e
      ∙ sym (leaf_at (arity_of xs) r i lr li k) in
      λ z. head_some (arity_of xs) xs S.table G.station N.1 due (ap (bucket_head xs) b ∙ z)

  -- a child of a root is a node's part of a block: set exactly when a station is registered there
  pub root_bit : (child (arity_of xs) (root_of xs r) i ≡ 1) ↔ RegisteredIn (state_of xs) r (λ c. c / arity_of xs ≡ i)
  unfolding state_of
  root_bit = (down, up)
    where
      down : child (arity_of xs) (root_of xs r) i ≡ 1 → RegisteredIn (state_of xs) r (λ c. c / arity_of xs ≡ i)
      down e =
          let C = some_child (arity_of xs) r i lr li xs S.table (root_node (arity_of xs) r i lr li xs S.table e) in
          filled_registered C.0 C.1 (λ c. c / arity_of xs ≡ i) (digits_div i C.1)
          (node_head (arity_of xs) r i lr li xs S.table C.0 C.1 C.2)

      up : RegisteredIn (state_of xs) r (λ c. c / arity_of xs ≡ i) → child (arity_of xs) (root_of xs r) i ≡ 1
      up G =
          let c : ℕ = leaf_in (arity_of xs) (width_of xs) G.time in
          let k : ℕ = c % arity_of xs in
          let e : c ≡ i * arity_of xs + k = sym (div-add-mod' c (arity_of xs)) ∙ ap (λ (y : ℕ). y * arity_of xs + k) G.leaf in
          head_root (arity_of xs) r i lr li xs S.table k (mod-lt c (arity_pos xs S)) (registered_filled k (λ c. c / arity_of xs ≡ i) G e)

  -- a child of a node is a leaf: set exactly when a station is registered there
  pub node_bit : (k : ℕ) → k < arity_of xs
      → (child (arity_of xs) (node_word (arity_of xs) xs (r * arity_of xs + i)) k ≡ 1) ↔ RegisteredIn (state_of xs) r (λ c. c ≡ i * arity_of xs + k)
  node_bit k lk = (down, up)
    where
      down : child (arity_of xs) (node_word (arity_of xs) xs (r * arity_of xs + i)) k ≡ 1 → RegisteredIn (state_of xs) r (λ c. c ≡ i * arity_of xs + k)
      down e = filled_registered k lk (λ c. c ≡ i * arity_of xs + k) refl (node_head (arity_of xs) r i lr li xs S.table k lk e)

      up : RegisteredIn (state_of xs) r (λ c. c ≡ i * arity_of xs + k) → child (arity_of xs) (node_word (arity_of xs) xs (r * arity_of xs + i)) k ≡ 1
      up G = head_node (arity_of xs) r i lr li xs S.table k lk (registered_filled k (λ c. c ≡ i * arity_of xs + k) G G.leaf)
