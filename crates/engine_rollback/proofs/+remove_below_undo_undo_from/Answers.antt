-- What the bytes hold is told by the laws of FromCalls, one for each way out of undo and remove_below, and of UndoTurns, for the turns of undo_from and its
-- ends.
use mathlib.Core.Path.{refl}
use native.Mathlib.Omega.{arith}
use Rattle.engine_events.proofs.AfterHeader.{after_header_same, after_header_on}
use Rattle.engine_rollback.proofs.RunCount.{runs_few, runs_same}
use Rattle.engine_rollback.proofs.UndoTurns.{goes_at_first, test_at, goes_on, no_turn, ended_empty, ended_before, undoes_from}
use Rattle.engine_rollback.proofs.FromCalls.{removes_none, removes_lower, removes_here, undoes_none, undoes_both, undoes_other}
use Rattle.engine_rollback.proofs.+remove_below_undo_undo_from.Goals as goal

-- ---- remove_below

pub remove_below-undo_from-k-requires : goal.remove_below-undo_from-k-requires
remove_below-undo_from-k-requires t c = (omega arith, (omega arith, omega arith))

pub remove_below-returns-then-x-eq0 : goal.remove_below-returns-then-x-eq0
remove_below-returns-then-x-eq0 t c =
    let a = c.args in
    record {
      frame = after_header_same a.b.now;
      fewer = omega arith;
      nothing = λ _. (refl, refl);
      removes = removes_none a.n a.c a.b.now a.s a.x (omega arith);
    }

pub remove_below-returns-then-t-s : goal.remove_below-returns-then-t-s
remove_below-returns-then-t-s t c =
    let a = c.args in
    let u = c.undo_from-k.ensures in
    let d = c.discard.ensures in
    record {
      frame = after_header_on u.frame d.frame;
      fewer = omega (arith, u.fewer, d.fewer);
      nothing = λ z. absurd (omega (arith, z));
      removes = removes_lower a.n a.c a.b.now a.s a.x c.event-e.ensures u.undoes d.leaves;
    }

pub remove_below-returns : goal.remove_below-returns
remove_below-returns t c =
    let a = c.args in
    let d = c.discard-2.ensures in
    record {
      frame = d.frame;
      fewer = omega (arith, d.fewer);
      nothing = λ z. absurd (omega (arith, z));
      removes = removes_here a.n a.c a.b.now a.s a.x c.event-e.ensures (omega arith) d.leaves;
    }

-- ---- undo

pub undo-returns-then-n-s : goal.undo-returns-then-n-s
undo-returns-then-n-s t c =
    let a = c.args in
    record { frame = after_header_same a.b.now; fewer = omega arith; undoes = undoes_none a.n a.c a.b.now a.x c.event-e.ensures (omega arith) }

pub undo-remove_below-k-requires : goal.undo-remove_below-k-requires
undo-remove_below-k-requires t c =
    (omega (arith, c.unrun.ensures.fewer c.if-unrun.true), (omega arith, omega arith))

pub undo-remove_below-m-requires : goal.undo-remove_below-m-requires
undo-remove_below-m-requires t c =
    (omega (arith, c.unrun.ensures.fewer c.if-unrun.true, c.remove_below-k.ensures.fewer), (omega arith, omega arith))

-- no more are undone than there are slots
pub undo-overflow_add-result : goal.undo-overflow_add-result
undo-overflow_add-result t c =
    let a = c.args in
    omega (arith, c.unrun.ensures.fewer c.if-unrun.true, c.remove_below-k.ensures.fewer, c.remove_below-m.ensures.fewer, runs_few a.n a.b.now a.c)

pub undo-overflow_add-result-then-unrun : goal.undo-overflow_add-result-then-unrun
undo-overflow_add-result-then-unrun t c =
    let a = c.args in
    omega (arith, c.unrun.ensures.fewer c.if-unrun.true, c.remove_below-k.ensures.fewer, c.remove_below-m.ensures.fewer, runs_few a.n a.b.now a.c)

pub undo-returns-then-unrun : goal.undo-returns-then-unrun
undo-returns-then-unrun t c =
    let a = c.args in
    let r = c.unrun.ensures in
    let k = c.remove_below-k.ensures in
    let m = c.remove_below-m.ensures in
    record {
      frame = after_header_on r.frame (after_header_on k.frame m.frame);
      fewer = omega (arith, r.fewer c.if-unrun.true, k.fewer, m.fewer);
      undoes = undoes_both a.n a.c a.b.now a.x c.event-e.ensures c.first_send-first.ensures c.second_send-second.ensures r.unruns k.nothing k.removes
          m.nothing m.removes;
    }

pub undo-returns : goal.undo-returns
undo-returns t c =
    let a = c.args in
    let r = c.unrun.ensures in
    record {
      frame = r.frame;
      fewer = runs_same a.n a.c (r.none c.if-unrun.false);
      undoes = undoes_other a.n a.c a.b.now a.x c.if-unrun.false r.unruns;
    }

-- ---- undo_from

pub undo_from-loop-e-init : goal.undo_from-loop-e-init
undo_from-loop-e-init t c =
    let a = c.args in
    (after_header_same a.b.now, omega arith, goes_at_first a.n a.c a.b.now a.s a.e)

pub undo_from-returns-then-x-eq0 : goal.undo_from-returns-then-x-eq0
undo_from-returns-then-x-eq0 t c =
    let i = c.loop-e.invariant in
    record { frame = i.0; fewer = i.1; undoes = undoes_from i.2 (ended_empty (omega arith) c.args.e c.last_run-x.ensures (omega arith)) }

pub undo_from-returns-then-before : goal.undo_from-returns-then-before
undo_from-returns-then-before t c =
    let i = c.loop-e.invariant in
    let v = test_at c.args.n c.last_run-x.result c.loop-e.b c.args.e c.slot.ensures c.before-in-loop-e.ensures c.if-before.true in
    record {
      frame = i.0;
      fewer = i.1;
      undoes = undoes_from i.2 (ended_before (omega arith) c.args.e c.last_run-x.ensures (λ z. omega (arith, z)) v);
    }

pub undo_from-undo-k-requires : goal.undo_from-undo-k-requires
undo_from-undo-k-requires t c = (omega (arith, c.loop-e.invariant.1), omega arith)

pub undo_from-returns-then-k-eq0 : goal.undo_from-returns-then-k-eq0
undo_from-returns-then-k-eq0 t c =
    let i = c.loop-e.invariant in
    let u = c.undo-k.ensures in
    let v = test_at c.args.n c.last_run-x.result c.loop-e.b c.args.e c.slot.ensures c.before-in-loop-e.ensures c.if-before.false in
    record {
      frame = after_header_on i.0 u.frame;
      fewer = omega (arith, i.1, u.fewer);
      undoes = no_turn (omega arith) c.args.e c.last_run-x.ensures (λ z. omega (arith, z)) v i.2 u.undoes (omega arith);
    }

pub undo_from-overflow_add-count : goal.undo_from-overflow_add-count
undo_from-overflow_add-count t c =
    let a = c.args in
    omega (arith, c.loop-e.invariant.1, c.undo-k.ensures.fewer, runs_few a.n a.b.now a.c)

pub undo_from-loop-e-smaller : goal.undo_from-loop-e-smaller
undo_from-loop-e-smaller t c = omega (arith, c.undo-k.ensures.fewer)

pub undo_from-loop-e-preserved : goal.undo_from-loop-e-preserved
undo_from-loop-e-preserved t c =
    let i = c.loop-e.invariant in
    let u = c.undo-k.ensures in
    let v = test_at c.args.n c.last_run-x.result c.loop-e.b c.args.e c.slot.ensures c.before-in-loop-e.ensures c.if-before.false in (
      after_header_on i.0 u.frame,
      omega (arith, i.1, u.fewer),
      goes_on (omega arith) c.args.e c.last_run-x.ensures (λ z. omega (arith, z)) v i.2 u.undoes,
    )
