-- Schrage's cases give the defined draw, and nothing in them leaves signed 32 bits: d = 127773·q + r, so 16807·d = 2147483647·q + (16807·r - 2836·q).
use mathlib.Core.Path.{◌≡◌, sym, ap, ◌∙◌, subst}
use mathlib.Core.Logic.{◌≢◌}
use mathlib.Core.Bool.{true, false}
use Prim.Native.Nat.{ℕ, suc, ◌+◌, ◌*◌, ◌-◌, ◌/◌, ◌%◌, ◌^◌, ◌≤◌, ◌<◌}
use native.Mathlib.Decide.{dec_lt}
use native.Mathlib.Omega.{arith}
use borrow.Author.Tests.{lt-ltb}
use lib.Arith.{digits_mod}
use lib.IntN.{ℤ, pos, nat_abs, pos-ne-negsuc, sub_ℕ, ◌+ℤ◌}
use lib.Signed.{lt_z}
use mir.Syntax.{w32}
use mir.Val.{SFits, to_z, of_z}
use mir.Facts.{to_z-of_z}
use Rattle.generator.specs.Draw.{next_draw}
use Rattle.generator.specs.Schrage.{low_product as low, high_product as high, difference_of, by_cases, IsDraw, Schrage}
use Rattle.generator.proofs.Signed.{less_is, above_is, below_is, less_fits}

module _ (d : ℕ) (is : IsDraw d) where
  -- ---- the products

  low_most : low d ≤ 2147464004
  low_most = omega arith

  high_most : high d ≤ 47664652
  high_most = omega (arith, is.1)

  -- 5790·2836 = 977·16807 + 1: equal products would make the quotient 16807·t, and the draw 2147483647·t
  differ : low d ≢ high d
  differ e =
      let t : ℕ = 5790 * (d % 127773) - 977 * (d / 127773) in
      let q : d / 127773 ≡ 16807 * t = omega arith in
      let m : d ≡ 2147483647 * t = omega arith in
      omega (arith, is.0, is.1)

  -- so the difference has a sign
  data Sign : Type 0 where
    positive : high d < low d → Sign
    negative : low d < high d → Sign

  sign : Sign
  sign = go (dec_lt (high d) (low d)) (dec_lt (low d) (high d))
    where
      go : Dec (high d < low d) → Dec (low d < high d) → Sign
      go (yes l) k = positive l
      go (no l) (yes k) = negative k
      go (no l) (no k) = absurd (differ (omega arith))

  above : high d < low d → low d - high d ≡ next_draw d
  unfolding next_draw
  above l =
      let e : 16807 * d ≡ (d / 127773) * 2147483647 + (low d - high d) = omega arith in
      let k : low d - high d < 2147483647 = omega arith in
      sym (ap (λ n. n % 2147483647) e ∙ digits_mod (d / 127773) k)

  below : low d < high d → 2147483647 - (high d - low d) ≡ next_draw d
  unfolding next_draw
  below l =
      let n : ℕ = 2147483647 - (high d - low d) in
      let e : 16807 * d ≡ (d / 127773 - 1) * 2147483647 + n = omega (arith, high_most) in
      let k : n < 2147483647 = omega arith in
      sym (ap (λ m. m % 2147483647) e ∙ digits_mod (d / 127773 - 1) k)

  -- ---- the claim

  never_0 : difference_of d ≢ pos 0
  unfolding difference_of
  never_0 e = go sign (sym (less_is (low d) (high d)) ∙ e)
    where
      go : Sign → sub_ℕ (low d) (high d) ≢ pos 0
      go (positive l) h = differ (let z : low d - high d ≡ 0 = ap nat_abs (sym (above_is (low d) (high d) (omega arith)) ∙ h) in omega arith)
      go (negative l) h = pos-ne-negsuc 0 (high d - suc (low d)) (sym h ∙ below_is (low d) (high d) l)

  same : by_cases (difference_of d) ≡ pos (next_draw d)
  unfolding by_cases difference_of
  same = ap by_cases (less_is (low d) (high d)) ∙ go sign
    where
      go : Sign → by_cases (sub_ℕ (low d) (high d)) ≡ pos (next_draw d)
      go (positive l) = rw (above_is (low d) (high d) (omega arith), lt-ltb 0 (low d - high d) (omega arith)) (ap pos (above l))
      go (negative l) =
          let s : ℕ = high d - suc (low d) in
          let e : 2147483647 - suc s ≡ 2147483647 - (high d - low d) = omega arith in
          rw (below_is (low d) (high d) l) (above_is 2147483647 (suc s) (omega (arith, high_most)) ∙ ap pos (e ∙ below l))

  again : IsDraw (next_draw d)
  again = go sign
    where
      go : Sign → IsDraw (next_draw d)
      go (positive l) = subst IsDraw (above l) (omega arith, omega (arith, low_most))
      go (negative l) = subst IsDraw (below l) (omega (arith, high_most), omega arith)

  pub schrage : Schrage d
  unfolding difference_of
  schrage = record {
    low_signed = record { sfits = omega (arith, low_most) };
    high_signed = record { sfits = omega (arith, high_most) };
    difference_signed = less_fits (low d) (high d) (omega (arith, low_most)) (omega (arith, high_most));
    never_0 = never_0;
    same = same;
    again = again;
  }

  -- ---- the code's two cases

  pub draw_small : next_draw d < 2 ^ 31
  draw_small = omega (arith, again.1)

  -- a number that is the draw, as it is answered
  pub answered : {z : ℤ} → z ≡ pos (next_draw d) → (pos (nat_abs z) ≡ by_cases (difference_of d)) × (nat_abs z ≡ next_draw d)
  answered e = (ap (λ z. pos (nat_abs z)) e ∙ sym same, ap nat_abs e)

  -- the difference as it is held, and the two ways of its test
  module _ (z : ℤ) (e : z ≡ difference_of d) (f : SFits w32 z) where
    abbrev held : ℤ
    held = to_z w32 (of_z w32 z)

    case : by_cases held ≡ pos (next_draw d)
    case = ap by_cases (to_z-of_z f ∙ e) ∙ same

    pub taken : lt_z (pos 0) held ≡ true → held ≡ pos (next_draw d)
    unfolding by_cases
    taken t = rw t at case

    pub added : lt_z (pos 0) held ≡ false → held +ℤ pos 2147483647 ≡ pos (next_draw d)
    unfolding by_cases
    added t = rw t at case
