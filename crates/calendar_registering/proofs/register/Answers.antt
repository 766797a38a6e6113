-- Each refusal has its number, and an accepted time is entered.
use Rattle.std.proofs.lemmas.Result.{err_from_is_err_and}
use Rattle.calendar_registering.proofs.Registering.{register_9, register_11, register_12, register_done}
use Rattle.calendar_registering.proofs.register.Goals as goal

pub returns-in_err-s : goal.returns-in_err-s
returns-in_err-s c =
    let p = err_from_is_err_and c.from_residual.result c.from_residual.ensures.1 in
    let e = c.in_err-s.ensures in
    rw (p.1, p.2, e.0) (register_9 c.args.b.now c.args.station c.args.time e.1)

pub returns-then-time-gt-HORIZON : goal.returns-then-time-gt-HORIZON
returns-then-time-gt-HORIZON c =
    let s = c.in_ok-s.ensures in
    rw (← s.0) (register_11 c.args.b.now c.in_ok-s.s c.args.time s.2 c.if-time-gt-HORIZON.true)

pub returns-then-time-word : goal.returns-then-time-word
returns-then-time-word c =
    let s = c.in_ok-s.ensures in
    rw (← s.0) (register_12 c.args.b.now c.in_ok-s.s c.args.time s.2 c.if-time-gt-HORIZON.false (rw (← c.word.ensures) c.if-time-word.true))

pub returns : goal.returns
returns c =
    let s = c.in_ok-s.ensures in
    rw (← s.0) (register_done c.args.b.now c.in_ok-s.s c.args.time s.2 c.if-time-gt-HORIZON.false c.enter.new.b
    (rw (← c.word.ensures) c.if-time-word.false) c.enter.ensures)
