-- Each turn's calls are joined to the list.
use native.Mathlib.Omega.{arith}
use Rattle.std.proofs.lemmas.Result.{err_from_is_err_and}
use Rattle.engine_until.proofs.TurnLaws.{none_turned, turned_more, until_done, until_fails, turns_out}
use Rattle.engine_until.proofs.run_until.Goals as goal

pub loop-init : goal.loop-init
loop-init c = none_turned

pub loop-preserved : goal.loop-preserved
loop-preserved c = turned_more c.loop.invariant c.turn.ensures

pub returns : goal.returns
returns c = turns_out (omega arith) c.loop.invariant

pub returns-in_err-turn : goal.returns-in_err-turn
returns-in_err-turn c =
    let p = err_from_is_err_and c.from_residual.result c.from_residual.ensures.1 in
    rw (p.1, p.2) (until_fails c.loop.invariant c.in_err-turn.ensures)

pub returns-then-branch : goal.returns-then-branch
returns-then-branch c = until_done c.loop.invariant (rw c.if-branch.true at c.in_ok-turn.ensures)
