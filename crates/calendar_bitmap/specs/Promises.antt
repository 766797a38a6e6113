-- What each call on a bitmap word promises.
use Rattle.std.specs.Prelude.{◌≡◌, Bool, cond, ℕ, ◌^◌, ◌<◌, ◌≤◌}
use Rattle.calendar_bitmap.specs.Child.{child}

-- r is the first child of x that is set, or a where x is 0
pub record FirstChild (a x r : ℕ) : Type 0 where
  pub within : r ≤ a
  pub none : x ≡ 0 → r ≡ a
  pub some : (x ≡ 0 → ⊥) → r < a
  pub set : r < a → child a x r ≡ 1
  pub before : (k : ℕ) → k < r → child a x k ≡ 0

-- r is the first child of x that is set, from child i on, or a where none is
pub record FirstFrom (a x i r : ℕ) : Type 0 where
  pub within : r ≤ a
  pub from : r < a → i ≤ r
  pub set : r < a → child a x r ≡ 1
  pub before : (k : ℕ) → i ≤ k → k < r → child a x k ≡ 0

-- r is x with its child i set, or clear, and no other child changed; it fits where x does
pub record WithChild (a x i : ℕ) (on : Bool) (r : ℕ) : Type 0 where
  pub fits : x < 2 ^ a → r < 2 ^ a
  pub this : child a r i ≡ cond on 1 0
  pub others : (k : ℕ) → k < a → (k ≡ i → ⊥) → child a r k ≡ child a x k
