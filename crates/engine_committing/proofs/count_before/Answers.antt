-- The front cells of the log are passed one by one.
use mathlib.Core.Path.{◌≡◌, subst}
use Prim.Native.Nat.{ℕ}
use native.Mathlib.Omega.{arith}
use Rattle.engine_index.proofs.Places.Range.{logged_at}
use Rattle.engine_index.proofs.Places.FoundSlot.{finds}
use Rattle.engine_promises.proofs.FoundSlots.{no_slot}
use Rattle.engine_committing.specs.Steps.{Counts}
use Rattle.engine_committing.proofs.Counting.{time_at, counting_start, counting_on, counting_ends, read_time}
use Rattle.engine_committing.proofs.count_before.Goals as goal

pub loop-count-init : goal.loop-count-init
loop-count-init c = counting_start _ _ _ _ (logged_at _ _ _ _ c.first_logged-x.ensures)

-- ---- the count ends, at three places
pub returns-then-c-i : goal.returns-then-c-i
returns-then-c-i c =
    let a = c.args in
    record {
      few = omega (arith, c.loop-count-test.true);
      counts = counting_ends a.n a.c a.b.now a.time c.loop-count.invariant (λ some early more. no_slot (finds c.slot_in-i.ensures) c.if-c-i.true some);
    }

pub returns-then-time : goal.returns-then-time
returns-then-time c =
    let a = c.args in
    let time-read : c.time.result ≡ time_at a.n a.b.now c.loop-count.x = read_time _ _ _ ((finds c.slot_in-i.ensures).sound c.if-c-i.false).1 c.time.ensures in
    record {
      few = omega (arith, c.loop-count-test.true);
      counts = counting_ends a.n a.c a.b.now a.time c.loop-count.invariant (λ some early more. omega (arith, time-read, early, c.if-time.true));
    }

pub returns : goal.returns
returns c =
    let a = c.args in
    let all : c.loop-count.count ≡ a.c = omega (arith, c.loop-count.auto.count-end, c.loop-count-test.false) in
    record {
      few = omega arith;
      counts = subst (λ (m : ℕ). Counts a.n a.c a.b.now a.time m) all (counting_ends a.n a.c a.b.now a.time c.loop-count.invariant (λ some early more. omega (arith, more, c.loop-count-test.false)));
    }

-- ---- or goes on
pub loop-count-preserved : goal.loop-count-preserved
loop-count-preserved c =
    let time-read : let a = c.args in c.time.result ≡ time_at a.n a.b.now c.loop-count.x = read_time _ _ _ ((finds c.slot_in-i.ensures).sound c.if-c-i.false).1 c.time.ensures in
    let slot = ((finds c.slot_in-i.ensures).sound c.if-c-i.false).0 in
    counting_on _ _ _ _ c.loop-count.invariant (λ z. omega (arith, z, slot.above)) (omega (arith, time-read, c.if-time.false))
    (logged_at _ _ _ _ c.next_logged-x.ensures)
