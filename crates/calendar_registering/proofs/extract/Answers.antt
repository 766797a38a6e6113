-- The least station is taken.
use Rattle.std.proofs.lemmas.Result.{err_from_is_err_and}
use Rattle.calendar_registering.proofs.Extracting.{extract_at, extract_none}
use Rattle.calendar_registering.proofs.extract.Goals as goal

pub returns : goal.returns
returns c = extract_at c.args.b.now c.take.new.b c.in_ok-at.at c.in_ok-at.ensures c.take.ensures.kept c.take.ensures.gone

pub returns-in_err-at : goal.returns-in_err-at
returns-in_err-at c =
    let p = err_from_is_err_and c.from_residual.result c.from_residual.ensures.1 in
    rw (p.1, p.2) (extract_none c.args.b.now c.in_err-at.field-0.0 c.in_err-at.ensures)
