-- The tests are those of the rules, in their order, each with its law; an accepted run has `run-judged`.
use mathlib.Core.Path.{sym, ◌∙◌}
use native.Mathlib.Omega.{arith}
use borrow.Author.Tests.{not-true}
use Rattle.engine_running.proofs.Outcomes.{two_sends}
use Rattle.engine_running.proofs.Running.{Reads, reads_of}
use Rattle.engine_running.proofs.RunCalls.{too_short, no_station, none_waits, counts_pass, places_few, run_judged}
use Rattle.engine_index.proofs.Places.FoundSlot.{finds}
use Rattle.std.proofs.lemmas.Result.{err_from_is_err_and}
use Rattle.engine_running.proofs.judge_run.Goals as goal

-- ---- refusals
pub returns-then-not-fits : goal.returns-then-not-fits
returns-then-not-fits c = too_short c.fits.ensures (not-true _ c.if-not-fits.true-raw)

pub returns-then-n-s : goal.returns-then-n-s
returns-then-n-s c = no_station c.if-n-s.true

pub returns-then-c-i : goal.returns-then-c-i
returns-then-c-i c =
    none_waits c.if-n-s.false c.first_unrun-x.ensures (finds c.slot_in-i.ensures) c.if-c-i.true

pub returns-in_err-effect : goal.returns-in_err-effect
returns-in_err-effect c =
    let a = c.args in
    let reads : Reads a.n a.c a.s c.first_unrun-x.result a.b.now c.event-e.result c.run_event.result =
    reads_of c.if-n-s.false c.first_unrun-x.ensures (finds c.slot_in-i.ensures) c.if-c-i.false c.event-e.ensures c.config-config.ensures c.state-state.ensures
    c.run_event.ensures in
    let p = err_from_is_err_and c.from_residual.result c.from_residual.ensures.1 in
    rw (p.1, p.2) (counts_pass reads (sym c.ok_or.ensures.value ∙ c.in_err-effect.was))

pub overflow_add-sends : goal.overflow_add-sends
overflow_add-sends c = omega (arith, two_sends c.in_ok-effect.effect c.sends.ensures c.sends-2.ensures)

pub returns-then-free_places-sends : goal.returns-then-free_places-sends
returns-then-free_places-sends c =
    let a = c.args in
    let reads : Reads a.n a.c a.s c.first_unrun-x.result a.b.now c.event-e.result c.run_event.result =
    reads_of c.if-n-s.false c.first_unrun-x.ensures (finds c.slot_in-i.ensures) c.if-c-i.false c.event-e.ensures c.config-config.ensures c.state-state.ensures
    c.run_event.ensures in
    places_few reads (sym c.ok_or.ensures.value ∙ c.in_ok-effect.was) c.free_places.ensures
    (omega (arith, c.if-free_places-sends.true, c.sends.ensures, c.sends-2.ensures))

-- ---- accepted
pub returns : goal.returns
returns c =
    let a = c.args in
    let reads : Reads a.n a.c a.s c.first_unrun-x.result a.b.now c.event-e.result c.run_event.result =
    reads_of c.if-n-s.false c.first_unrun-x.ensures (finds c.slot_in-i.ensures) c.if-c-i.false c.event-e.ensures c.config-config.ensures c.state-state.ensures
    c.run_event.ensures in
    run_judged reads (sym c.ok_or.ensures.value ∙ c.in_ok-effect.was) c.free_places.ensures
    (omega (arith, c.if-free_places-sends.false, c.sends.ensures, c.sends-2.ensures))
