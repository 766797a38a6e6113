-- The costs of the first i entries' targets are stored.
use native.Mathlib.Omega.{arith}
use Rattle.account_parts.specs.Part.{entry_at}
use Rattle.account.proofs.Storing.{stored_none, stored_beside, stored_next, stored_all}
use Rattle.account.proofs.store_costs.Goals as goal
use Rattle.account.proofs.store_costs.Goals.{then-target-n, else-target-n}

pub loop-i-init : goal.loop-i-init
loop-i-init c = stored_none _ _ _ _ c.requires.1.1.0

pub overflow_add-charge : goal.overflow_add-charge
overflow_add-charge c =
    let t = c.load-target.result in
    omega (arith, c.loop-i.invariant.sums t (omega arith), c.requires.1.1.1.sums t (omega arith), c.load.ensures)

pub loop-i-preserved : goal.loop-i-preserved
unfolding entry_at
loop-i-preserved c =
    let h = c.loop-i.invariant in
    let et = c.load-target.ensures in
    elim c.if-target-n.branch [
      | then-target-n w ↦
          rw (w.b-is, w.costs-is, w.store.ensures)
          (stored_next _ _ _ _ _ _ _ h _ et w.if-target-n.true (omega arith) (omega arith) c.requires.1.1.1 _ (omega (arith, w.load.ensures)))
      | else-target-n w ↦ rw (w.b-is, w.costs-is) (stored_beside _ _ _ _ _ _ _ h _ et w.if-target-n.false)
    ]

pub returns : goal.returns
returns c = stored_all _ _ _ _ _ _ _ (omega arith) c.loop-i.invariant
