-- The bar of no length, and any other.
use Rattle.std.proofs.Common.{◌≡◌, refl, ap, [], ◌∷◌, ℕ, replicate, arith}
use Prim.Native.Nat.{zero, suc}
use Rattle.quote_hours.specs.Bars.{bar}

pub no_bar : (n : ℕ) → n ≡ 0 → [] ≡ bar n
unfolding bar
no_bar zero e = refl
no_bar (suc n) e = absurd (omega arith)

pub some_bar : (n k : ℕ) → (n ≡ 0 → ⊥) → k ≡ n → 32 ∷ 32 ∷ replicate k 35 ≡ bar n
unfolding bar
some_bar zero k d e = absurd (d refl)
some_bar (suc n) k d e = ap (λ t. 32 ∷ 32 ∷ replicate t 35) e
