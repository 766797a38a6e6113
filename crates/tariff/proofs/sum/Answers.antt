-- The sum over the stations from 1 on that are below s.
use native.Mathlib.Omega.{arith}
use mathlib.Core.Path.{refl}
use Rattle.tariff.proofs.Summing.{few, calm_some, sum_next, sum_all}
use Rattle.tariff.proofs.sum.Goals as goal

pub loop-s-init : goal.loop-s-init
loop-s-init c = (omega arith, omega arith, refl)

pub share-total-requires : goal.share-total-requires
share-total-requires c = (calm_some _ _ c.requires.0 c.loop-s.s (omega arith) c.config_at.ensures, omega arith)

pub overflow_add-total : goal.overflow_add-total
overflow_add-total c = let m = few _ _ c.requires.0 in omega arith

pub loop-s-preserved : goal.loop-s-preserved
loop-s-preserved c =
    (omega arith, omega arith, sum_next _ _ c.loop-s.s c.loop-s.invariant.0 c.loop-s.invariant.2 c.config_at.ensures c.share-total.ensures.0)

pub returns : goal.returns
returns c = let m = few _ _ c.requires.0 in sum_all _ _ _ {s = c.loop-s.s} c.requires.0 (omega arith) c.loop-s.invariant.2
