-- Each call is one more of the list.
use Rattle.std.proofs.lemmas.Result.{err_from_is_err_and}
use Rattle.engine_until.proofs.TurnLaws.{no_runs, more_runs, stretch_ran, stretch_refused}
use Rattle.engine_until.proofs.run_some.Goals as goal

pub returns-in_err-run_lowest : goal.returns-in_err-run_lowest
returns-in_err-run_lowest c =
    let p = err_from_is_err_and c.from_residual.result c.from_residual.ensures.1 in
    rw (p.1, p.2) (stretch_refused c.loop.invariant c.in_err-run_lowest.ensures)

pub loop-preserved : goal.loop-preserved
loop-preserved c = more_runs c.loop.invariant c.run_lowest.result c.run_lowest.ensures

pub loop-init : goal.loop-init
loop-init c = no_runs

pub returns : goal.returns
returns c = stretch_ran c.loop.invariant
