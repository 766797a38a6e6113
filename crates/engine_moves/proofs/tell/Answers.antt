-- The calendar is told what stands at the first unrun node: nothing (`tell_none`), or an event's time (`tell-time`).
use native.Mathlib.Omega.{arith}
use Rattle.engine_moves.proofs.Bytes.StationTime.{tell_none, tell_time}
use Rattle.engine_moves.proofs.tell.Goals as goal

pub returns-then-x-eq0 : goal.returns-then-x-eq0
returns-then-x-eq0 c =
    let a = c.args in
    let w =
    tell_none a.n a.c a.s a.b.now _ c.requires.2 c.calendar_start-start.ensures (omega (arith, c.requires, c.calendar_start-start.ensures))
    c.unregister.auto.b c.first_unrun-x.ensures c.if-x-eq0.true c.unregister.ensures in
    record { frame = w.0; tells = w.1 }

pub returns : goal.returns
returns c =
    let a = c.args in
    let w =
    tell_time a.n a.c a.s a.b.now _ c.requires.2 c.calendar_start-start.ensures (omega (arith, c.requires, c.calendar_start-start.ensures))
    c.register.auto.b c.first_unrun-x.ensures c.if-x-eq0.false c.slot.ensures c.time-t.ensures
    c.register.ensures in
    record { frame = w.0; tells = w.1 }
