-- Every place on the way ranks below k; the rank rises at each turn, so the walk ends.
use mathlib.Core.Path.{refl}
use native.Mathlib.Omega.{arith}
use Rattle.calendar_lists.proofs.Finds.{way_start, way_end, way_out, way_bad, way_here, way_on}
use Rattle.calendar_lists.proofs.find.Goals as goal

pub returns-then-list-ge65792 : goal.returns-then-list-ge65792
returns-then-list-ge65792 c = record {
  within = omega arith;
  none = λ h. refl;
  place = λ a l. absurd (omega arith);
}

pub overflow_add-p : goal.overflow_add-p
overflow_add-p c = omega arith

pub loop-n-init : goal.loop-n-init
loop-n-init c = (omega arith, c.link-n.ensures, way_start _ _ _, omega arith)

pub returns-then-n-eq0 : goal.returns-then-n-eq0
returns-then-n-eq0 c =
    let inv = c.loop-n.invariant in
    record {
      within = inv.0;
      none = λ h. absurd (omega arith);
      place = way_end _ _ _ _ _ _ inv.2 inv.1 c.if-n-eq0.true;
    }

pub returns-then-n-gt256 : goal.returns-then-n-gt256
returns-then-n-gt256 c =
    let inv = c.loop-n.invariant in
    record {
      within = inv.0;
      none = λ h. absurd (omega arith);
      place = way_out _ _ _ _ _ _ inv.2 inv.1 c.if-n-gt256.true;
    }

pub overflow_sub-n : goal.overflow_sub-n
overflow_sub-n c = omega arith

pub rank-kn-requires : goal.rank-kn-requires
rank-kn-requires c = omega arith

pub returns-then-kn-last : goal.returns-then-kn-last
returns-then-kn-last c =
    let inv = c.loop-n.invariant in
    let if2 = c.if-n-eq0 in
    let rank = c.rank-kn in
    record {
      within = inv.0;
      none = λ h. absurd (omega arith);
      place = way_bad _ _ _ _ _ _ _ inv.2 inv.1 if2.false rank.ensures c.if-kn-last.true;
    }

pub returns-then-k-kn : goal.returns-then-k-kn
returns-then-k-kn c =
    let inv = c.loop-n.invariant in
    let if2 = c.if-n-eq0 in
    let rank = c.rank-kn in
    record {
      within = inv.0;
      none = λ h. absurd (omega arith);
      place = way_here _ _ _ _ _ _ _ inv.2 inv.1 if2.false rank.ensures c.if-k-kn.true;
    }

pub overflow_sub-p : goal.overflow_sub-p
overflow_sub-p c = omega arith

pub loop-n-smaller : goal.loop-n-smaller
loop-n-smaller c = omega arith

pub loop-n-preserved : goal.loop-n-preserved
loop-n-preserved c =
    let inv = c.loop-n.invariant in
    let if2 = c.if-n-eq0 in
    let rank = c.rank-kn in
    let if5 = c.if-k-kn in
    (omega arith, c.link-n-in-loop-n.ensures, way_on _ _ _ _ _ _ _ inv.2 inv.1 if2.false rank.ensures if5.false, omega arith)
