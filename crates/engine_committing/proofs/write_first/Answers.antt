-- The first event of the log is written and leaves, so many times. The loop ends where the log has no more events
-- (`writing-stops`), or after that many (`writing-ends`).
use mathlib.Core.Path.{refl, ap, ◌∙◌}
use native.Mathlib.Omega.{arith}
use Rattle.engine_index.proofs.Places.Range.{logged_at}
use Rattle.engine_index.proofs.Places.FoundSlot.{finds}
use lib.ListN.{length}
use Rattle.entry.proofs.EntryLaws.{length_event}
use Rattle.engine_events.proofs.AfterHeader.{after_header_same, after_header_on}
use Rattle.engine_promises.proofs.FoundSlots.{no_slot, slot_event}
use Rattle.engine_committing.proofs.Writing.{writing_start, writing_on, writing_stops, writing_ends}
use Rattle.engine_committing.proofs.write_first.Goals as goal

pub loop-k-init : goal.loop-k-init
loop-k-init c = (refl, after_header_same _, writing_start _ _ _ _ _)

pub returns-then-c-i : goal.returns-then-c-i
returns-then-c-i c =
    let a = c.args in
    let inv = c.loop-k.invariant in
    record {
      frame = inv.1;
      writes = writing_stops a.n a.c a.b.now a.count a.out.now inv.2 c.loop-k-test.true (logged_at _ _ _ _ c.first_logged-x.ensures)
          (no_slot (finds c.slot_in-i.ensures) c.if-c-i.true);
    }

pub loop-k-preserved : goal.loop-k-preserved
loop-k-preserved c =
    let inv = c.loop-k.invariant in
    let more = c.loop-k-test.true in
    let gone = c.release.ensures in (
      ap length c.write.ensures ∙ length_event _ _ _ ∙ inv.0,
      after_header_on inv.1 gone.frame,
      writing_on _ _ _ _ _ inv.2 more (logged_at _ _ _ _ c.first_logged-x.ensures)
          (slot_event (finds c.slot_in-i.ensures) _ c.if-c-i.false c.event-e.ensures) c.write.ensures gone.releases,
    )

pub returns : goal.returns
returns c =
    let a = c.args in
    let inv = c.loop-k.invariant in
    record {
      frame = inv.1;
      writes = writing_ends a.n a.c a.b.now a.count a.out.now inv.2 (omega (arith, c.loop-k.auto.k-end, c.loop-k-test.false));
    }

pub overflow_cast-k : goal.overflow_cast-k
overflow_cast-k c = omega arith

pub overflow_mul-k : goal.overflow_mul-k
overflow_mul-k c = omega arith
