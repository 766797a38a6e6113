-- By the lines, then by the readings.
use Rattle.std.proofs.lemmas.Result.{err_from_is_err_and}
use Rattle.quote_setup.proofs.SettingUp.{line_refused, all_posted, reading_refused}
use Rattle.quote_setup.proofs.post_all.Goals as goal

pub returns-in_err-asked : goal.returns-in_err-asked
returns-in_err-asked c =
    let p = err_from_is_err_and c.from_residual.result c.from_residual.ensures.1 in
    rw (p.1, p.2) (line_refused c.take_lines.ensures c.in_err-asked.was)

pub returns-in-Ok : goal.returns-in-Ok
returns-in-Ok c = all_posted c.take_lines.ensures c.in_ok-asked.was c.read_unasked.ensures c.in-Ok.is

pub returns-in-Err : goal.returns-in-Err
returns-in-Err c = reading_refused c.take_lines.ensures c.in_ok-asked.was c.read_unasked.ensures c.in-Err.is
