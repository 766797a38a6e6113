-- Each turn is one hour more.
use native.Mathlib.Omega.{arith}
use Rattle.std.proofs.lemmas.Result.{err_from_is_err_and}
use Rattle.quoting.proofs.Hours.{none_run, one_run, not_run, all_run}
use Rattle.quoting.proofs.run_hours.Goals as goal

pub loop-hour-init : goal.loop-hour-init
loop-hour-init g c = none_run

pub loop-hour-preserved : goal.loop-hour-preserved
loop-hour-preserved g c = one_run c.loop-hour.invariant c.run_hour.ensures c.in_ok-run_hour.was

pub returns-in_err-run_hour : goal.returns-in_err-run_hour
returns-in_err-run_hour g c =
    let p = err_from_is_err_and c.from_residual.result c.from_residual.ensures.1 in
    rw (p.1, p.2) (not_run c.loop-hour.invariant c.run_hour.ensures (omega arith) c.in_err-run_hour.was)

pub returns : goal.returns
returns g c = all_run {h = c.loop-hour.hour} (omega arith) c.loop-hour.invariant
