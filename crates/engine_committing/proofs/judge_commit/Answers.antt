-- The checks in their order, each with its law.
use Prim.Native.Nat.{◌+◌, ◌≤◌}
use native.Mathlib.Omega.{arith}
use borrow.Author.Tests.{not-true}
use Rattle.refusal.specs.Tests.{horizon}
use Rattle.words.specs.Le.{load_at}
use Rattle.engine_committing.proofs.CommitChecks.{says_space, says_late, says_early, says_unrun, says_short, says_accepted}
use Rattle.engine_committing.proofs.judge_commit.Goals as goal

-- ---- refusals
pub returns-then-not-fits : goal.returns-then-not-fits
returns-then-not-fits c =
    says_space _ _ _ c.stations-n.ensures c.capacity-c.ensures c.fits.ensures (not-true _ c.if-not-fits.true-raw)

pub returns-then-time : goal.returns-then-time
returns-then-time c = says_late _ _ _ c.if-time.true

pub returns-then-time-header : goal.returns-then-time-header
returns-then-time-header c = says_early _ _ _ (omega (arith, c.if-time.false)) (omega (arith, c.header.ensures.0 (omega arith), c.if-time-header.true))

pub returns-then-unrun_before : goal.returns-then-unrun_before
returns-then-unrun_before c =
    let in_time : let a = c.args in (a.time ≤ horizon + 1) × (load_at 8 16 a.b.now ≤ a.time) = (omega (arith, c.if-time.false), omega (arith, c.header.ensures.0 (omega arith), c.if-time-header.false)) in
    says_unrun _ _ _ c.stations-n.ensures c.capacity-c.ensures (in_time).0 (in_time).1 (rw c.if-unrun_before.true at c.unrun_before.ensures)

pub returns-then-room-count : goal.returns-then-room-count
returns-then-room-count c =
    let in_time : let a = c.args in (a.time ≤ horizon + 1) × (load_at 8 16 a.b.now ≤ a.time) = (omega (arith, c.if-time.false), omega (arith, c.header.ensures.0 (omega arith), c.if-time-header.false)) in
    says_short _ _ _ c.stations-n.ensures c.capacity-c.ensures (in_time).0 (in_time).1
    (rw c.if-unrun_before.false at c.unrun_before.ensures) c.count_before-count.ensures.counts c.if-room-count.true

-- ---- accepted
pub returns : goal.returns
returns c =
    let in_time : let a = c.args in (a.time ≤ horizon + 1) × (load_at 8 16 a.b.now ≤ a.time) = (omega (arith, c.if-time.false), omega (arith, c.header.ensures.0 (omega arith), c.if-time-header.false)) in
    says_accepted _ _ _ c.stations-n.ensures c.capacity-c.ensures (in_time).0 (in_time).1
    (rw c.if-unrun_before.false at c.unrun_before.ensures) c.count_before-count.ensures.counts (omega (arith, c.if-room-count.false))
