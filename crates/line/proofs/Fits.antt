-- Numbers that are in range, as facts.
use mathlib.Core.Path.{◌≡◌, refl, sym}
use mathlib.Core.Bool.{Bool, true, false, not, ◌&&◌, ◌||◌, true≢false}
use Prim.Native.Nat.{ℕ, zero, suc, ◌≤◌}
use native.Mathlib.Omega.{arith}
use lib.Dec.{ltb, eqb, nleb→lt, nltb→le, eqb→eq}
use Rattle.line.specs.declared.Config.{Config}
use Rattle.line.specs.Station.{parent_out, number_out}

pub record Fits (s : ℕ) (c : Config) : Type 0 where
  pub calm_least : 1 ≤ c.calm
  pub spring_least : 1 ≤ c.spring
  pub hop_least : 1 ≤ c.hop
  pub noise_most : c.noise ≤ 2147483646
  pub seed_least : 1 ≤ c.seed
  pub seed_most : c.seed ≤ 2147483646
  pub parent_most : c.parent ≤ s

pub or_false : (a b : Bool) → (a || b) ≡ false → (a ≡ false) × (b ≡ false)
or_false true b e = absurd (true≢false e)
or_false false b e = (refl, e)

pub and_true : (a b : Bool) → (a && b) ≡ true → (a ≡ true) × (b ≡ true)
and_true true b e = (refl, e)
and_true false b e = absurd (true≢false (sym e))

least : (m n : ℕ) → ltb n m ≡ false → m ≤ n
least m n e = nltb→le n m (rw e tt)

parent_in : (s q : ℕ) → parent_out s q ≡ false → q ≤ s
unfolding parent_out
parent_in zero q e = go (eqb q 0) refl e
  where
    go : (b : Bool) → eqb q 0 ≡ b → not b ≡ false → q ≤ zero
    go true t k = omega (arith, eqb→eq q 0 (rw t tt))
    go false t k = absurd (true≢false k)
parent_in (suc s) q e = omega (arith, nleb→lt (suc s) q (rw e tt))

pub fits : (s : ℕ) (c : Config) → number_out s c ≡ false → Fits s c
unfolding number_out
fits s c e =
    let a = or_false (parent_out s c.parent) _ e in
    let b = or_false (ltb c.calm 1) _ a.1 in
    let d = or_false (ltb c.spring 1) _ b.1 in
    let f = or_false (ltb c.hop 1) _ d.1 in
    let g = or_false (ltb 2147483646 c.noise) _ f.1 in
    let h = or_false (ltb c.seed 1) _ g.1 in
    record {
      calm_least = least 1 c.calm b.0;
      spring_least = least 1 c.spring d.0;
      hop_least = least 1 c.hop f.0;
      noise_most = least c.noise 2147483646 g.0;
      seed_least = least 1 c.seed h.0;
      seed_most = least c.seed 2147483646 h.1;
      parent_most = parent_in s c.parent a.0;
    }
