-- By the set-up, then by the run.
use native.Mathlib.Omega.{arith}
use Rattle.std.proofs.lemmas.Result.{err_from_is_err_and}
use Rattle.quoting.proofs.Quoting.{few_days, short_table, not_set_up, is_quoted, is_stopped}
use Rattle.quoting.proofs.quote.Goals as goal

pub returns-then-table-lt-TABLE : goal.returns-then-table-lt-TABLE
returns-then-table-lt-TABLE g c = short_table (omega arith)

pub returns-in_err-days : goal.returns-in_err-days
returns-in_err-days g c =
    let p = err_from_is_err_and c.from_residual.result c.from_residual.ensures.1 in
    rw (p.1, p.2) (not_set_up c.set_up.ensures (omega arith) c.in_err-days.was)

pub overflow_mul-days : goal.overflow_mul-days
overflow_mul-days g c = let d = few_days c.set_up.ensures c.in_ok-days.was in record { fits = omega (arith, d.1) }

pub run_hours-requires : goal.run_hours-requires
run_hours-requires g c = let d = few_days c.set_up.ensures c.in_ok-days.was in (omega (arith, d.1), omega arith)

pub returns-in_err-run_hours : goal.returns-in_err-run_hours
returns-in_err-run_hours g c =
    let p = err_from_is_err_and c.from_residual-in_err-run_hours.result c.from_residual-in_err-run_hours.ensures.1 in
    rw (p.1, p.2) (is_stopped c.set_up.ensures c.in_ok-days.was c.run_hours.ensures (omega arith) c.in_err-run_hours.was)

pub returns : goal.returns
returns g c = is_quoted c.set_up.ensures c.in_ok-days.was c.run_hours.ensures (omega arith) c.in_ok-run_hours.was
