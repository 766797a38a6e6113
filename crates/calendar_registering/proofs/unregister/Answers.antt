-- A station beyond the calendar's is refused, any other is taken.
use Rattle.std.proofs.lemmas.Result.{err_from_is_err_and}
use Rattle.calendar_registering.proofs.Registering.{unregister_9, unregister_done}
use Rattle.calendar_registering.proofs.unregister.Goals as goal

pub returns-in_err-s : goal.returns-in_err-s
returns-in_err-s c =
    let p = err_from_is_err_and c.from_residual.result c.from_residual.ensures.1 in
    let e = c.in_err-s.ensures in
    rw (p.1, p.2, e.0) (unregister_9 c.args.b.now c.args.station e.1)

pub returns : goal.returns
returns c =
    let s = c.in_ok-s.ensures in
    rw (← s.0) (unregister_done c.args.b.now c.in_ok-s.s c.take.new.b s.2 s.1 c.take.ensures.kept c.take.ensures.gone)
