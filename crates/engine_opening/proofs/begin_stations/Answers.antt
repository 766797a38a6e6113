-- Each turn begins one station more (`begun-on`), until all have begun (`begun_all`).
use native.Mathlib.Omega.{arith}
use Rattle.engine_opening.proofs.Beginning.{begun_none, begun_all, begun_on}
use Rattle.engine_opening.proofs.begin_stations.Goals as goal

pub loop-s-init : goal.loop-s-init
loop-s-init c = begun_none _ _ _

pub loop-s-preserved : goal.loop-s-preserved
loop-s-preserved c =
    let given = c.shared_slice_known-1.given in
    begun_on c.loop-s.invariant c.loop-s-test.true (λ j. omega (arith, given j)) c.config_at-g.ensures c.set_config.ensures c.first_state.ensures c.set_state.ensures

pub returns : goal.returns
returns c = begun_all (omega (arith, c.loop-s-test.false)) c.loop-s.invariant
