-- A call that leaves the header and the length as they were.
use mathlib.Core.Path.{◌≡◌, sym, ap₂, ◌∙◌}
use mathlib.Core.List.{List}
use Prim.Native.Nat.{ℕ, ◌+◌, ◌-◌, ◌*◌}
use native.Mathlib.Omega.{arith}
use Rattle.calendar_buckets.specs.Promises.{bucket_for, Kept}
use Rattle.calendar_ring.specs.Ring.{block_of, slot_of_time, ring_end, leaf_for}
use Rattle.calendar_header.specs.Bytes.{width_of, floor_of, ring_start, end_of, limit_of, slot_in, count_of, Header}

module _ (a : ℕ) (xs ys : List ℕ) (K : Kept xs ys) where
  pub kept_header : Header a xs → Header a ys
  kept_header H =
      let w : width_of ys ≡ width_of xs = K.words 0 (omega arith) in
      let f : floor_of ys ≡ floor_of xs = K.words 1 (omega arith) in
      let s : ring_start ys ≡ ring_start xs = K.words 2 (omega arith) in
      let e : end_of ys ≡ end_of xs = K.words 3 (omega arith) in
      let l : limit_of ys ≡ limit_of xs = K.words 4 (omega arith) in
      let t : slot_in ys ≡ slot_in xs = K.words 5 (omega arith) in
      let n : count_of ys ≡ count_of xs = K.words 6 (omega arith) in
      record {
        width_pos = rw w H.width_pos;
        width_most = rw w H.width_most;
        floor_most = rw f H.floor_most;
        count_pos = rw n H.count_pos;
        count_most = rw n H.count_most;
        start_is = s ∙ H.start_is ∙ sym (ap₂ (λ (x y : ℕ). block_of a x y * (x * (a * a))) w f);
        end_is = e ∙ H.end_is ∙ sym (ap₂ (λ (x y : ℕ). (block_of a x y + 1) * (x * (a * a))) w f);
        limit_is = l ∙ H.limit_is ∙ sym (ap₂ (λ (x y : ℕ). ring_end a x y) w f);
        slot_is = t ∙ H.slot_is ∙ sym (ap₂ (λ (x y : ℕ). slot_of_time a x y) w f);
      }

  -- the bucket to which a due number's time belongs
  pub kept_home : (d x : ℕ) → bucket_for a (leaf_for a (width_of ys) (limit_of ys) (d - 1)) x ≡ bucket_for a (leaf_for a (width_of xs) (limit_of xs) (d - 1)) x
  kept_home d x = ap₂ (λ (y z : ℕ). bucket_for a (leaf_for a y z (d - 1)) x) (K.words 0 (omega arith)) (K.words 4 (omega arith))
