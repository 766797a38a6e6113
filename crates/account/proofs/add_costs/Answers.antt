-- The costs of the first k entries are added.
use mathlib.Core.Path.{◌≡◌, sym}
use Prim.Native.Nat.{◌/◌}
use native.Mathlib.Omega.{arith}
use lib.ListN.{length}
use Rattle.account_parts.specs.Part.{entry_at, entries_of}
use Rattle.account.proofs.Answers.{done_refused}
use Rattle.account.proofs.Adding.{costs_none, costs_beside, costs_next, costs_pass, costs_fit}
use Rattle.account.proofs.add_costs.Goals as goal
use Rattle.account.proofs.add_costs.Goals.{then-s-n+else-c-load, else-s-n}

pub loop-k-init : goal.loop-k-init
loop-k-init c = costs_none _ _ _ _ _ _ c.requires.1 (λ j. omega (arith, c.shared_slice_known-1.given j))

-- a charge and the costs so far do not pass
pub overflow_add-load : goal.overflow_add-load
overflow_add-load c =
    omega (arith, c.loop-k.invariant.fits.sums c.load-s.result (omega (arith, c.if-s-n.true)), c.load-then-s-n.ensures)

pub returns-then-c-load : goal.returns-then-c-load
unfolding entries_of entry_at
returns-then-c-load c =
    let h = c.loop-k.invariant in
    record {
      words = h.words;
      answer = rw (costs_pass _ _ _ _ _ _ _ h _ _ _ c.load-s.ensures c.load.ensures c.cost-c.ensures (length c.args.part.now / 24) (omega arith) c.if-s-n.true
          (omega (arith, c.load-then-s-n.ensures, c.if-c-load.true)));
      fits = λ q. absurd (done_refused (sym q));
      costs = λ q. absurd (done_refused (sym q));
    }

pub overflow_add-costs : goal.overflow_add-costs
overflow_add-costs c = omega (arith, c.if-c-load.false)

pub loop-k-preserved : goal.loop-k-preserved
unfolding entry_at
loop-k-preserved c =
    let h = c.loop-k.invariant in
    let et = c.load-s.ensures in
    let ed = c.load.ensures in
    let ec = c.cost-c.ensures in
    elim c.if-s-n.branch [
      | then-s-n+else-c-load w ↦
          rw w.costs-is
          (costs_next _ _ _ _ _ _ _ h _ _ _ et ed ec w.if-s-n.true c.requires.0 (omega (arith, w.load-then-s-n.ensures, w.if-c-load.false)))
      | else-s-n w ↦ rw w.costs-is (costs_beside _ _ _ _ _ _ _ h _ _ _ et ed ec w.if-s-n.false)
    ]

pub returns : goal.returns
unfolding entries_of
returns c =
    let h = c.loop-k.invariant in
    let e : length c.args.part.now / 24 ≡ c.loop-k.k = omega arith in
    record { words = h.words; answer = rw (e, costs_fit _ _ _ _ _ _ _ h); fits = λ _. h.fits; costs = λ _. rw e h.costs }
