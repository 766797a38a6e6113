-- The leaf of a time, over the arity a: its block's slot and its place in the block. The code computes it from the start of the floor's block.
use mathlib.Core.Path.{◌≡◌, sym, ap, ap₂, ◌∙◌}
use mathlib.Core.List.{List}
use Prim.Native.Nat.{ℕ, ◌+◌, ◌-◌, ◌*◌, ◌/◌, ◌%◌, ◌≤◌, ◌<◌}
use native.Mathlib.Nat.{mul-pos, mul_comm, mul_assoc, mul-le-mul_right, mul-le-mul_left, le_trans, add-mul, mod-lt, div-mul-le_self, div-lt_iff_lt-mul, div-div-eq-div-mul}
use native.Mathlib.Nat.{mul-add-div_right, mul-add-mod_self_right, mod-eq_of_lt}
use native.Mathlib.Omega.{arith}
use lib.Dec.{lit<}
use lib.Arith.{digits_lt, mod-mul}
use borrow.Author.Tests.{lt-ltb, le-ltb}
use Rattle.calendar_cells.specs.Table.{arity_of}
use Rattle.calendar_buckets.specs.Promises.{bucket_for}
use Rattle.calendar_cells.proofs.TableLaws.{bytes_sizes}
use Rattle.calendar_ring.specs.Ring.{block_of, slot_of_time, leaf_in, leaf_at, leaf_for}
use Rattle.calendar_header.specs.Bytes.{width_of, floor_of, ring_start, limit_of, slot_in, Header}

-- the leaf of a time that the ring covers
abbrev pub ring_leaf : ℕ → ℕ → ℕ → ℕ
ring_leaf a w t = leaf_at a (slot_of_time a w t) (leaf_in a w t)

pub leaf_in_lem : (a w end t : ℕ) → t < end → leaf_for a w end t ≡ ring_leaf a w t
unfolding leaf_for
leaf_in_lem a w end t h = rw (lt-ltb t end h)

pub leaf_over : (a w end t : ℕ) → end ≤ t → leaf_for a w end t ≡ 16 * (a * a)
unfolding leaf_for
leaf_over a w end t h = rw (le-ltb t end h)

pub leaf_most : (a w t : ℕ) → 0 < a → ring_leaf a w t < 16 * (a * a)
leaf_most a w t p = let l : block_of a w t % 16 < 16 = omega arith in digits_lt l (mod-lt (t / w) (mul-pos p p))

-- ---- buckets

pub bucket_leaf : (a l s : ℕ) → l < 16 * (a * a) → bucket_for a l s ≡ l
unfolding bucket_for
bucket_leaf a l s h = rw (lt-ltb l (16 * (a * a)) h)

pub bucket_own : (a l s : ℕ) → 16 * (a * a) ≤ l → bucket_for a l s ≡ 16 * (a * a) + s
unfolding bucket_for
bucket_own a l s h = rw (le-ltb l (16 * (a * a)) h)

-- ---- the numbers of the ring

-- k leaves after the start of block b, of q leaves each, in slot s of 16
wraps : (q b k s : ℕ) → 0 < q → s ≡ b % 16 → (s * q + k) % (16 * q) ≡ (b + k / q) % 16 * q + k % q
wraps q b k s p es =
    let turned : (s + k / q) % 16 ≡ (b + k / q) % 16 = omega arith in
    mod-mul (s * q + k) {m = 16} {c = q} (lit< tt) p ∙ ap₂ (λ (x y : ℕ). x % 16 * q + y) (mul-add-div_right p s k) (mul-add-mod_self_right s q k)
    ∙ ap (λ (y : ℕ). y * q + k % q) turned

-- the leaves of a block
pub leaves_many : (xs : List ℕ) (n : ℕ) → n ≡ arity_of xs * arity_of xs → (0 < n) × (n ≤ 4096)
leaves_many xs n e = let Z = bytes_sizes xs in (omega (arith, e, Z.low, Z.square), omega (arith, e, Z.most))

-- a number modulo the leaves of the ring
pub ring_most : (x n q : ℕ) → 0 < n → n ≡ q → x % (16 * n) ≤ 16 * q
ring_most x n q p e = let some : 0 < 16 * n = omega arith in omega (arith, e, mod-lt x some)

-- the length of a block of n leaves of width w
pub span_most : (w n : ℕ) → w ≤ 1048576 → n ≤ 4096 → w * n ≤ 4294967296
span_most w n mw mn = le_trans (mul-le-mul_right n mw) (mul-le-mul_left 1048576 mn)

-- the first leaf of a slot
pub slot_most : (slot n : ℕ) → n ≤ 4096 → slot % 16 * n ≤ 15 * n
slot_most slot n h = let l : slot % 16 ≤ 15 = omega arith in mul-le-mul_right n l

module _ (a : ℕ) (xs : List ℕ) (ea : a ≡ arity_of xs) (H : Header a xs) (t : ℕ) (f : floor_of xs ≤ t) where
  pub start_before : ring_start xs ≤ t
  start_before = omega (arith, H.start_is, div-mul-le_self (floor_of xs) (width_of xs * (a * a)))

  -- the same of what is read: the end of the ring and the leaves of a block
  module _ (limit n : ℕ) (el : limit ≡ limit_of xs) (em : n ≡ arity_of xs * arity_of xs) where
    en : n ≡ a * a
    en = em ∙ sym (ap (λ (y : ℕ). y * y) ea)

    pub leaf_after : limit ≤ t → 16 * n ≡ leaf_for a (width_of xs) (limit_of xs) t
    leaf_after h = ap (λ (y : ℕ). 16 * y) en ∙ sym (leaf_over a (width_of xs) (limit_of xs) t (rw (← el) h))

    -- and the leaf widths from the start of the floor's block
    module _
        (slot start width k : ℕ) (es : slot ≡ slot_in xs) (et : start ≡ ring_start xs) (ew : width ≡ width_of xs) (ek : k ≡ (t - start) / width) (h : t < limit)
      where
        pq : 0 < a * a
        pq = let l : 0 < a = rw ea (omega (arith, (bytes_sizes xs).low)) in mul-pos l l

        turns : k ≡ (t - ring_start xs) / width_of xs
        turns = ek ∙ ap₂ (λ (x y : ℕ). (t - x) / y) et ew

        -- a time of the ring lies fewer leaf widths than the ring has leaves after the start of the floor's block
        turns_in : k < 16 * (a * a)
        turns_in =
            let w : ℕ = width_of xs in
            let b : ℕ = block_of a (width_of xs) (floor_of xs) in
            let spread : 16 * (w * (a * a)) ≡ 16 * (a * a) * w = ap (λ (y : ℕ). 16 * y) (mul_comm w (a * a)) ∙ sym (mul_assoc 16 (a * a) w) in
            let near : t - ring_start xs < 16 * (a * a) * w = omega (arith, el, H.start_is, H.limit_is, add-mul b 16 (w * (a * a)), start_before) in
            rw turns ((div-lt_iff_lt-mul H.width_pos).1 near)

        -- where the code finds the leaf
        abbrev Found : ℕ
        Found = (block_of a (width_of xs) (floor_of xs) + k / (a * a)) % 16 * (a * a) + k % (a * a)

        leaf_is : leaf_for a (width_of xs) (limit_of xs) t ≡ Found
        leaf_is =
            let w : ℕ = width_of xs in
            let b : ℕ = block_of a (width_of xs) (floor_of xs) in
            let d : ℕ = t - ring_start xs in
            let spread : b * (w * (a * a)) ≡ b * (a * a) * w = ap (λ (y : ℕ). b * y) (mul_comm w (a * a)) ∙ sym (mul_assoc b (a * a) w) in
            let t-is : t ≡ b * (a * a) * w + d = omega (arith, start_before, H.start_is) in
            let widths : t / w ≡ b * (a * a) + k =
            ap (λ (y : ℕ). y / w) t-is ∙ mul-add-div_right H.width_pos (b * (a * a)) d ∙ ap (λ (y : ℕ). b * (a * a) + y) (sym turns) in
            let block : block_of a w t ≡ b + k / (a * a) =
            sym (div-div-eq-div-mul t w (a * a)) ∙ ap (λ (y : ℕ). y / (a * a)) widths ∙ mul-add-div_right pq b k in
            let place : leaf_in a w t ≡ k % (a * a) = ap (λ (y : ℕ). y % (a * a)) widths ∙ mul-add-mod_self_right b (a * a) k in
            leaf_in_lem a (width_of xs) (limit_of xs) t (rw (← el) h) ∙ ap₂ (λ (x y : ℕ). x % 16 * (a * a) + y) block place

        pub leaf_read : (slot % 16 * n + k % 65536) % (16 * n) ≡ leaf_for a (width_of xs) (limit_of xs) t
        leaf_read =
            let k-is : k % 65536 ≡ k = mod-eq_of_lt (omega (arith, turns_in, em, en, (leaves_many xs n em).1)) in
            ap₂ (λ (x y : ℕ). (slot % 16 * x + y) % (16 * x)) en k-is
            ∙ wraps (a * a) (block_of a (width_of xs) (floor_of xs)) k (slot % 16) pq (omega (arith, es, H.slot_is)) ∙ sym leaf_is
