-- A pair that is not wrong has its record whole in the plan.
use Prim.Native.Nat.{ℕ, ◌+◌, ◌≤◌}
use mathlib.Core.Path.{◌≡◌}
use mathlib.Core.Bool.{false}
use mathlib.Core.List.{List}
use lib.ListN.{length}
use borrow.Author.Tests.{eqb-true, not-false, ltb-false, le-ltb, eq-eqb}
use Rattle.line.proofs.Fits.{or_false}
use Rattle.plan_format.specs.Plan.{offset_of, length_of, begins, pair_wrong}

pub record PairRight (p : List ℕ) (k : ℕ) : Type 0 where
  pub placed : offset_of p k ≡ begins p k
  pub least : 26 ≤ length_of p k
  pub most : length_of p k ≤ 42
  pub within : offset_of p k + length_of p k ≤ length p

pub pair_right : (p : List ℕ) (k : ℕ) → pair_wrong p k ≡ false → PairRight p k
unfolding pair_wrong
pair_right p k e =
    let a = or_false _ _ e in
    let b = or_false _ _ a.1 in
    let d = or_false _ _ b.1 in
    record {
      placed = eqb-true _ _ (not-false _ a.0);
      least = ltb-false _ _ b.0;
      most = ltb-false _ _ d.0;
      within = ltb-false _ _ d.1;
    }

pub pair_passes : (p : List ℕ) (k : ℕ) → PairRight p k → pair_wrong p k ≡ false
unfolding pair_wrong
pair_passes p k r =
    rw (
      eq-eqb (offset_of p k) (begins p k) r.placed,
      le-ltb (length_of p k) 26 r.least,
      le-ltb 42 (length_of p k) r.most,
      le-ltb (length p) (offset_of p k + length_of p k) r.within,
    )
