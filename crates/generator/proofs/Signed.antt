-- Numbers below 2 ^ 31 in signed 32 bits: their products and differences as the machine makes and holds them.
use mathlib.Core.Path.{◌≡◌, refl, sym, ap, ap₂, ◌∙◌, subst}
use Prim.Native.Nat.{ℕ, zero, suc, ◌*◌, ◌-◌, ◌^◌, ◌≤◌, ◌<◌}
use native.Mathlib.Decide.{dec_lt}
use native.Mathlib.Omega.{arith}
use borrow.Author.Tests.{lt-ltb, le-ltb}
use lib.Dec.{T}
use lib.IntN.{ℤ, pos, negsuc, nat_abs, sub_ℕ, ◌-ℤ◌, ◌*ℤ◌}
use lib.Signed.{non_neg}
use mir.Syntax.{w32}
use mir.Val.{Fits, SFits, to_z, of_z}
use mir.Facts.{to_z_pos, to_z-of_z}

-- ---- a difference of two numbers

pub less_is : (a b : ℕ) → pos a -ℤ pos b ≡ sub_ℕ a b
less_is a zero = rw (le-ltb a 0 (omega arith)) (ap pos (omega arith))
less_is a (suc b) = refl

pub above_is : (a b : ℕ) → b ≤ a → sub_ℕ a b ≡ pos (a - b)
above_is a b h = rw (le-ltb a b h)

pub below_is : (a b : ℕ) → a < b → sub_ℕ a b ≡ negsuc (b - suc a)
below_is a b h = rw (lt-ltb a b h)

pub less_fits : (a b : ℕ) → a < 2 ^ 31 → b < 2 ^ 31 → SFits w32 (pos a -ℤ pos b)
less_fits a b h k = subst (SFits w32) (sym (less_is a b)) (go (dec_lt a b))
  where
    go : Dec (a < b) → SFits w32 (sub_ℕ a b)
    go (yes l) = subst (SFits w32) (sym (below_is a b l)) (record { sfits = omega arith })
    go (no l) = subst (SFits w32) (sym (above_is a b (omega arith))) (record { sfits = omega arith })

-- ---- as the machine holds them

-- a number, by what it is equal to: as a sum leaves it, and as a cast to unsigned asks it
pub number_fits : {z : ℤ} {n : ℕ} → z ≡ pos n → n < 2 ^ 31 → SFits w32 z
number_fits e l = subst (SFits w32) (sym e) (record { sfits = l })

pub number_casts : {z : ℤ} {n : ℕ} → z ≡ pos n → n < 2 ^ 31 → T (non_neg z) × Fits w32 (nat_abs z)
number_casts e l = subst (λ v. T (non_neg v) × Fits w32 (nat_abs v)) (sym e) (tt, record { fits = omega arith })

-- a product by a number that is held
module _ (a b : ℕ) (held : SFits w32 (pos b)) (small : a * b < 2 ^ 31) where
  product_is : pos a *ℤ to_z w32 b ≡ pos (a * b)
  product_is = ap (λ z. pos a *ℤ z) (to_z_pos w32 held.sfits)

  pub product_fits : SFits w32 (pos a *ℤ to_z w32 b)
  product_fits = number_fits product_is small

  product_held : to_z w32 (of_z w32 (pos a *ℤ to_z w32 b)) ≡ pos (a * b)
  product_held = to_z-of_z product_fits ∙ product_is

-- the difference of two such products
module _ (a b : ℕ) (held : SFits w32 (pos b)) (small : a * b < 2 ^ 31) (a' b' : ℕ) (held' : SFits w32 (pos b')) (small' : a' * b' < 2 ^ 31) where
  abbrev made : ℤ
  made = to_z w32 (of_z w32 (pos a *ℤ to_z w32 b)) -ℤ to_z w32 (of_z w32 (pos a' *ℤ to_z w32 b'))

  made_is : made ≡ pos (a * b) -ℤ pos (a' * b')
  made_is = ap₂ ◌-ℤ◌ (product_held a b held small) (product_held a' b' held' small')

  pub less_products_fit : SFits w32 made
  less_products_fit = subst (SFits w32) (sym made_is) (less_fits (a * b) (a' * b') small small')

  pub less_products_held : to_z w32 (of_z w32 made) ≡ pos (a * b) -ℤ pos (a' * b')
  less_products_held = to_z-of_z less_products_fit ∙ made_is
