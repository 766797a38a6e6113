-- The first station in ring order is the first in time: leaf order is time order, and the overflow table's times lie after the ring.
use mathlib.Core.Path.{◌≡◌, sym, ap, ◌∙◌, subst}
use mathlib.Core.Logic.{◌⊎◌, inl, inr}
use mathlib.Core.List.{List}
use Rattle.std.specs.Prelude.{Option, Some, None, IfSome, MatchOption}
use Prim.Native.Nat.{ℕ, suc, ◌+◌, ◌-◌, ◌*◌, ◌/◌, ◌%◌, ◌≤◌, ◌<◌}
use native.Mathlib.Nat.{mul-pos, mod-lt, div-div-eq-div-mul, div-add-mod'}
use native.Mathlib.Omega.{arith}
use lib.Arith.{digits_div, digits_mod}
use Rattle.calendar_cells.specs.Lists.{rank_of}
use Rattle.calendar_cells.specs.Table.{due_of, bucket_of, Due, Waits}
use Rattle.calendar_search.specs.Promises.{blocks_to, Before}
use Rattle.calendar_buckets.specs.Promises.{NotAfter, FirstFound, First}
use Rattle.words.proofs.Cases.{eq_or, lt_or}
use Rattle.calendar_cells.proofs.Places.{rank_station}
use Rattle.calendar_ring.specs.Ring.{block_of, slot_of_time, leaf_in, ring_end}
use Rattle.calendar_ring.proofs.Blocks.{div_mono, block_mono, block_in}
use Rattle.calendar_header.specs.Bytes.{width_of, floor_of, slot_in, SoundAt}
use Rattle.calendar_naming.specs.Steps.{FirstAt, FirstOf, Nearest}
use Rattle.calendar_header.proofs.Leaves.{ring_leaf}
use Rattle.calendar_header.proofs.Homes.{arity_pos, in_ring, over_ring}

-- ---- leaf order is time order

module _ (a w floor slot : ℕ) (pa : 0 < a) (pw : 0 < w) (es : slot ≡ slot_of_time a w floor) where
  paa : 0 < a * a
  paa = mul-pos pa pa

  block_of_lem : (t : ℕ) → ring_leaf a w t / (a * a) ≡ slot_of_time a w t
  block_of_lem t = digits_div (slot_of_time a w t) (mod-lt (t / w) paa)

  place_of : (t : ℕ) → ring_leaf a w t % (a * a) ≡ leaf_in a w t
  place_of t = digits_mod (slot_of_time a w t) (mod-lt (t / w) paa)

  -- how many blocks a time's leaf lies after the floor's
  blocks_of : (t : ℕ) → floor ≤ t → t < ring_end a w floor → blocks_to a slot (ring_leaf a w t) ≡ block_of a w t - block_of a w floor
  blocks_of t f h =
      let lo : block_of a w floor ≤ block_of a w t = block_mono a w pa pw floor t f in
      let hi : block_of a w t < block_of a w floor + 16 = block_in a w pa pw floor t h in
      omega (arith, block_of_lem t)

  -- a block and the place in it say how many leaf widths a time has
  widths_of : (t : ℕ) → block_of a w t * (a * a) + leaf_in a w t ≡ t / w
  widths_of t = ap (λ (y : ℕ). y * (a * a) + leaf_in a w t) (sym (div-div-eq-div-mul t w (a * a))) ∙ div-add-mod' (t / w) (a * a)

  -- an earlier leaf in ring order has an earlier time
  earlier : (t u : ℕ) → floor ≤ t → floor ≤ u → t < ring_end a w floor → u < ring_end a w floor → Before a slot (ring_leaf a w t) (ring_leaf a w u) → t < u
  earlier t u ft fu ht hu o = go o (lt_or t u)
    where
      go : Before a slot (ring_leaf a w t) (ring_leaf a w u) → (t < u) ⊎ (u ≤ t) → t < u
      go _ (inl k) = k
      go (inl b) (inr k) =
          let m = block_mono a w pa pw u t k in
          absurd (omega (arith, b, blocks_of t ft ht, blocks_of u fu hu))
      go (inr b) (inr k) =
          let m = div_mono w pw u t k in
          let e : block_of a w t ≡ block_of a w u =
          omega (arith, b.0, blocks_of t ft ht, blocks_of u fu hu, block_mono a w pa pw floor t ft, block_mono a w pa pw floor u fu) in
          let q = ap (λ (y : ℕ). y * (a * a)) e in
          absurd (omega (arith, widths_of t, widths_of u, q, b.1, place_of t, place_of u))

-- ---- the stations

rank_before : (due : ℕ → ℕ) (h x : ℕ) → h < 256 → x < 256 → due h < due x → rank_of due h ≤ rank_of due x
rank_before due h x lh lx q = rw (rank_station due h lh, rank_station due x lx) (omega arith)

module _ {a : ℕ} (xs : List ℕ) (S : SoundAt a xs) where
  -- a station in a leaf has a time from the floor to the end of the ring
  since : (x : ℕ) → x < 256 → Due xs x → floor_of xs ≤ due_of xs x - 1
  since x l r = omega (arith, S.since x l r)

  until : (x : ℕ) → x < 256 → Due xs x → bucket_of xs x < 16 * (a * a) → due_of xs x - 1 < ring_end a (width_of xs) (floor_of xs)
  until x l r b = subst (λ (y : ℕ). due_of xs x - 1 < y) S.header.limit_is (in_ring xs S x l r b).0

  blocks_to_lem : (x : ℕ) → x < 256 → Due xs x → bucket_of xs x < 16 * (a * a)
      → blocks_to a (slot_in xs) (bucket_of xs x) ≡ block_of a (width_of xs) (due_of xs x - 1) - block_of a (width_of xs) (floor_of xs)
  blocks_to_lem x l r b =
      ap (blocks_to a (slot_in xs)) (in_ring xs S x l r b).1
      ∙ blocks_of a (width_of xs) (floor_of xs) (slot_in xs) (arity_pos xs S) S.header.width_pos S.header.slot_is (due_of xs x - 1) (since x l r)
      (until x l r b)

  -- a station that is not after x in ring order is not after it in time
  not_after : (h x : ℕ) → h < 256 → x < 256 → Due xs h → Due xs x → bucket_of xs h < 16 * (a * a) → bucket_of xs x < 16 * (a * a)
      → NotAfter a xs (slot_in xs) h x → rank_of (due_of xs) h ≤ rank_of (due_of xs) x
  not_after h x lh lx rh rx bh bx (inl q) =
      let k : due_of xs h - 1 < due_of xs x - 1 =
      earlier a (width_of xs) (floor_of xs) (slot_in xs) (arity_pos xs S) S.header.width_pos S.header.slot_is (due_of xs h - 1) (due_of xs x - 1)
      (since h lh rh) (since x lx rx) (until h lh rh bh) (until x lx rx bx)
      (subst (λ (y : ℕ). Before a (slot_in xs) y (ring_leaf a (width_of xs) (due_of xs x - 1))) (in_ring xs S h lh rh bh).1
      (subst (λ (y : ℕ). Before a (slot_in xs) (bucket_of xs h) y) (in_ring xs S x lx rx bx).1 q)) in
      rank_before (due_of xs) h x lh lx (omega arith)
  not_after h x lh lx rh rx bh bx (inr q) = q.1

  -- ---- the first of all

  slot_mod : (slot : ℕ) → slot ≡ slot_in xs → slot % 16 % 16 ≡ slot_in xs
  slot_mod slot e = omega (arith, S.header.slot_is)

  -- where a leaf is filled, the first in the leaves is the first
  first_leaves : (slot h words : ℕ) → slot ≡ slot_in xs → FirstFound a xs (slot % 16 % 16) h words → FirstAt xs a h words
  first_leaves slot h words es F = record {
    station = F.station;
    due = F.due;
    least = λ x lx rx. go x lx rx (lt_or (bucket_of xs x) (16 * (a * a)));
    ring = λ _.
        F.read ∙ ap (λ (s : ℕ). blocks_to a s (bucket_of xs h) + 2) (slot_mod slot es)
        ∙ ap (λ (y : ℕ). y + 2) (blocks_to_lem h F.station F.due F.leaf);
    over = λ q. absurd (omega (arith, (in_ring xs S h F.station F.due F.leaf).0));
  }
    where
      go : (x : ℕ) → x < 256 → Due xs x → (bucket_of xs x < 16 * (a * a)) ⊎ (16 * (a * a) ≤ bucket_of xs x)
          → rank_of (due_of xs) h ≤ rank_of (due_of xs) x
      go x lx rx (inl b) =
          not_after h x F.station lx F.due rx F.leaf b (subst (λ (s : ℕ). NotAfter a xs s h x) (slot_mod slot es) (F.first x lx rx b))
      go x lx rx (inr b) =
          let R = in_ring xs S h F.station F.due F.leaf in
          rank_before (due_of xs) h x F.station lx (omega (arith, F.due, over_ring xs S x lx rx b, R.0))

  -- where none is, the nearest of the overflow table
  first_over : (slot words : ℕ) → First a xs slot None words → (r : Option ℕ) → Nearest a xs 256 r → FirstOf a xs r words
  first_over slot words F = by
    where
      waits : (x : ℕ) → x < 256 → Due xs x → Waits a xs x
      waits x lx rx = (rx, S.table.own x lx rx (F.0 x lx rx))

      by : (r : Option ℕ) → Nearest a xs 256 r → FirstOf a xs r words
      by None N = λ x lx. go x lx (eq_or (due_of xs x) 0)
        where
          go : (x : ℕ) → x < 256 → (due_of xs x ≡ 0) ⊎ (due_of xs x ≡ 0 → ⊥) → due_of xs x ≡ 0
          go x lx (inl q) = q
          go x lx (inr q) = absurd (N x lx lx (waits x lx q))
      by (Some h) N = record {
        station = N.0;
        due = N.1.0;
        least = λ x lx rx. N.2 x lx lx (waits x lx rx);
        ring = λ q. absurd (omega (arith, over_ring xs S h N.0 N.1.0 (omega (arith, N.1.1))));
        over = λ _. F.1;
      }

  -- the first in the leaves, or else the nearest of the overflow table
  pub first_of : (slot words : ℕ) (f r : Option ℕ) → slot ≡ slot_in xs → First a xs (slot % 16 % 16) f words
      → MatchOption f (IfSome r (λ h. h < 256) × (SoundAt a xs → Nearest a xs 256 r)) (λ h. r ≡ Some h) → FirstOf a xs r words
  first_of slot words None r es F N = first_over (slot % 16 % 16) words F r (N.1 S)
  first_of slot words (Some h) r es F e = rw e (first_leaves slot h words es F)

-- what is named is a station
pub at_within : (f r : Option ℕ) (P : Type 0) → IfSome f (λ h. h < 256) → MatchOption f (IfSome r (λ h. h < 256) × P) (λ h. r ≡ Some h)
    → IfSome r (λ h. h < 256)
at_within None r P l h = h.0
at_within (Some k) r P l e = rw e l
