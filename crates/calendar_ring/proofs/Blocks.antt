-- A later time lies in no earlier block.
use Prim.Native.Nat.{ℕ, ◌+◌, ◌*◌, ◌/◌, ◌≤◌, ◌<◌}
use native.Mathlib.Nat.{mul-pos, le_trans, div-mul-le_self, le-div_iff_mul-le, div-lt_iff_lt-mul}
use Rattle.calendar_ring.specs.Ring.{block_of, ring_end}

pub div_mono : (k : ℕ) → 0 < k → (x y : ℕ) → x ≤ y → x / k ≤ y / k
div_mono k p x y h = (le-div_iff_mul-le p).1 (le_trans (div-mul-le_self x k) h)

module _ (a w : ℕ) (pa : 0 < a) (pw : 0 < w) where
  span : 0 < w * (a * a)
  span = mul-pos pw (mul-pos pa pa)

  pub block_mono : (t u : ℕ) → t ≤ u → block_of a w t ≤ block_of a w u
  block_mono t u h = div_mono (w * (a * a)) span t u h

  -- the ring's times are those of its 16 blocks
  pub block_in : (floor t : ℕ) → t < ring_end a w floor → block_of a w t < block_of a w floor + 16
  block_in floor t h = (div-lt_iff_lt-mul span).1 h

  pub block_after : (floor t : ℕ) → ring_end a w floor ≤ t → block_of a w floor + 16 ≤ block_of a w t
  block_after floor t h = (le-div_iff_mul-le span).1 h
