-- A node is a slot's exactly where the code finds its slot.
use mathlib.Core.Path.{◌≡◌, refl, sym, ◌∙◌}
use mathlib.Core.Bool.{Bool, true, false, cond, ◌&&◌}
use Prim.Native.Nat.{ℕ, ◌+◌, ◌-◌, ◌*◌, ◌≤◌, ◌<◌}
use native.Mathlib.Omega.{arith}
use borrow.Author.Tests.{le-leb, lt-leb, leb-true, leb-false, lt-ltb, le-ltb, ltb-true, ltb-false}
use lib.Dec.{leb, ltb}
use Rattle.engine_rows.specs.Layout.{slot_row}
use Rattle.engine_index.specs.Layout.{free_ring, log_at, nodes_of, index_bytes, in_range, slot_of, IsSlot, slot_found}

-- r is the slot of node x; c or more where that is no slot's
pub record FindsSlot (n c bytes x r : ℕ) : Type 0 where
  pub sound : r < c → IsSlot n c bytes x × (r ≡ slot_of n x)
  pub complete : IsSlot n c bytes x → (r < c) × (r ≡ slot_of n x)

-- as a call of slot_in ensures it
pub finds : {n c bytes x r : ℕ} → r ≡ slot_found n c bytes x → FindsSlot n c bytes x r
unfolding slot_found
finds {n} {c} {bytes} {x} {r} = go (leb n 256) (leb c 4096) (leb (slot_row n 0 + index_bytes n c) bytes) (ltb (free_ring n) x) refl refl refl refl
  where
    none : r ≡ c → (IsSlot n c bytes x → ⊥) → FindsSlot n c bytes x r
    none e h = record { sound = λ l. absurd (omega arith); complete = λ s. absurd (h s) }

    go : (p q v w : Bool) → leb n 256 ≡ p → leb c 4096 ≡ q → leb (slot_row n 0 + index_bytes n c) bytes ≡ v → ltb (free_ring n) x ≡ w
        → r ≡ cond ((p && q) && (v && w)) (slot_of n x) c → FindsSlot n c bytes x r
    go true true true true p q v w e = record {
      sound = λ h. (
        record {
          stations = leb-true n 256 p;
          capacity = leb-true c 4096 q;
          room = leb-true (slot_row n 0 + index_bytes n c) bytes v;
          above = ltb-true (free_ring n) x w;
          below = omega (arith, ltb-true (free_ring n) x w);
        },
        e,
      );
      complete = λ s. let below = s.below in let above = s.above in (omega arith, e);
    }
    go true true true false p q v w e = none e (λ s. omega (arith, s.above, ltb-false (free_ring n) x w))
    go true true false _ p q v w e = none e (λ s. omega (arith, s.room, leb-false (slot_row n 0 + index_bytes n c) bytes v))
    go true false _ _ p q v w e = none e (λ s. omega (arith, s.capacity, leb-false c 4096 q))
    go false _ _ _ p q v w e = none e (λ s. omega (arith, s.stations, leb-false n 256 p))

-- ---- the code

module _ (n c bytes x : ℕ) where
  pub out_of_range : {r : Bool} → r ≡ in_range n c → r ≡ false → c ≡ slot_found n c bytes x
  unfolding slot_found
  out_of_range e z = let t : in_range n c ≡ false = sym e ∙ z in rw t

  module _ (p : n ≤ 256) (q : c ≤ 4096) {l k : ℕ} (el : l ≡ log_at n c) (ek : k ≡ nodes_of n c) where
    pub short : bytes < l + 4 * k → c ≡ slot_found n c bytes x
    unfolding slot_found
    short h = rw (le-leb n 256 p, le-leb c 4096 q, lt-leb (slot_row n 0 + index_bytes n c) bytes (omega arith))

    module _ (room : l + 4 * k ≤ bytes) where
      pub found : free_ring n < x → x - (2 * n + 1) ≡ slot_found n c bytes x
      unfolding slot_found
      found low = rw (le-leb n 256 p, le-leb c 4096 q, le-leb (slot_row n 0 + index_bytes n c) bytes (omega arith), lt-ltb (free_ring n) x low)

      pub sentinel : x ≤ free_ring n → c ≡ slot_found n c bytes x
      unfolding slot_found
      sentinel h = rw (le-leb n 256 p, le-leb c 4096 q, le-leb (slot_row n 0 + index_bytes n c) bytes (omega arith), le-ltb (free_ring n) x h)
