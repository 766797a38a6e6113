-- The pair is right, so the record lies whole in the plan.
use Prim.Native.Nat.{◌+◌, ◌-◌}
use native.Mathlib.Omega.{arith}
use mathlib.Core.Path.{◌∙◌}
use lib.ListN.{take, drop}
use Rattle.plan_format.specs.Plan.{padded, station_at}
use Rattle.plan_format.proofs.Pairs.{PairRight, pair_right}
use Rattle.plan_reading.proofs.station_at.Goals as goal

pub overflow_sub-len : goal.overflow_sub-len
overflow_sub-len c =
    let right : PairRight c.args.plan.now c.args.k = pair_right _ _ c.requires.1 in
    let r = right in let l = c.length_of-len.ensures.0 in omega arith

pub name_at-name-requires : goal.name_at-name-requires
name_at-name-requires c =
    let right : PairRight c.args.plan.now c.args.k = pair_right _ _ c.requires.1 in
    let r = right in
    let a = c.offset_of-at.ensures.0 in
    let l = c.length_of-len.ensures.0 in
    (omega arith, omega arith)

pub returns : goal.returns
unfolding station_at
returns c =
    let a = c.offset_of-at.ensures.0 in
    let l = c.length_of-len.ensures.0 in
    λ i. record {
      config = c.config_at-config.ensures i;
      name = (c.name_at-name.ensures ∙ (λ j. padded (take (l j - 26) (drop (a j + 26) c.args.plan.now)))) i;
      len = l i - 26;
    }
