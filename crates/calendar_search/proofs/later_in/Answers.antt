-- Each node without a bit from s on passes its stations by.
use mathlib.Core.Path.{refl}
use native.Mathlib.Omega.{arith}
use Rattle.calendar_search.proofs.Laters.{none_start, none_end, child_in, from_least, from_next, found_at, none_at}
use Rattle.calendar_search.proofs.later_in.Goals as goal

pub returns-then-b-table_bytes : goal.returns-then-b-table_bytes
returns-then-b-table_bytes c =
    let bytes = c.table_bytes in
    let short = c.if-b-table_bytes in
    record {
      from = tt;
      short = λ h. refl;
      first = λ T. absurd (omega (arith, T.long, short.true, bytes.ensures.0));
    }

pub overflow_mul-nodes : goal.overflow_mul-nodes
overflow_mul-nodes c = omega (arith, c.arity-a.ensures.1)

pub overflow_add-nodes : goal.overflow_add-nodes
overflow_add-nodes c = omega (arith, c.arity-a.ensures.1, c.nodes_at.ensures.1)

pub loop-s-init : goal.loop-s-init
loop-s-init c = (omega arith, λ T. none_start _ _ _)

pub overflow_add-nodes-in-loop-s : goal.overflow_add-nodes-in-loop-s
overflow_add-nodes-in-loop-s c = omega (arith, c.above-j.ensures.1, c.arity-a.ensures.1, c.nodes_at.ensures.1)

pub overflow_add-result : goal.overflow_add-result
overflow_add-result c =
    let arity = c.arity-a in
    let above = c.above-j in
    let first = c.below.ensures.fits (omega (arith, above.ensures.1)) in
    omega (arith, first.1, above.ensures.1, arity.ensures.1)

pub returns-then-c-a : goal.returns-then-c-a
returns-then-c-a c =
    let arity = c.arity-a in
    let nodes-at = c.nodes_at in
    let loop = c.loop-s in
    let above = c.above-j in
    let word = c.word in
    let child-of = c.child_of in
    let first-from = c.first_from-c in
    let if1 = c.if-b-table_bytes in
    let if2 = c.if-c-a in
    let bytes = c.table_bytes in
    let first = c.below.ensures.fits (omega (arith, above.ensures.1)) in
    let least = from_least _ _ _ _ _ _ _ arity.ensures.0 above.ensures.0 child-of.ensures.0 first.0 first-from.ensures.first if2.true in
    let in_node = child_in _ _ _ _ _ _ _ arity.ensures.0 above.ensures.0 child-of.ensures.0 first.0 c.loop-s-test.true if2.true in record {
      from = (omega (arith, loop.invariant.0, least), in_node);
      short = λ h. absurd (omega (arith, if1.false, bytes.ensures.0));
      first = λ T.
          found_at _ _ T _ _ _ _ _ _ _ _ _ arity.ensures.0 above.ensures.0 child-of.ensures.0 first.0
          nodes-at.ensures.0 word.ensures (loop.invariant.1 T) first-from.ensures.first in_node if2.true;
    }

pub overflow_add-s : goal.overflow_add-s
overflow_add-s c =
    let arity = c.arity-a in
    let above = c.above-j in
    let first = c.below-in-loop-s.ensures.fits (omega (arith, above.ensures.1)) in
    omega (arith, first.1, above.ensures.1, arity.ensures.1)

pub loop-s-smaller : goal.loop-s-smaller
loop-s-smaller c =
    let arity = c.arity-a in
    let above = c.above-j in
    let child-of = c.child_of in
    let first = c.below-in-loop-s.ensures.fits (omega (arith, above.ensures.1)) in
    let next = from_next _ _ _ _ _ 0 _ arity.ensures.0 above.ensures.0 child-of.ensures.0 first.0 in
    omega (arith, next)

pub loop-s-preserved : goal.loop-s-preserved
loop-s-preserved c =
    let arity = c.arity-a in
    let nodes-at = c.nodes_at in
    let loop = c.loop-s in
    let above = c.above-j in
    let word = c.word in
    let child-of = c.child_of in
    let first-from = c.first_from-c in
    let if2 = c.if-c-a in
    let first = c.below-in-loop-s.ensures.fits (omega (arith, above.ensures.1)) in
    let next = from_next _ _ _ _ _ 0 _ arity.ensures.0 above.ensures.0 child-of.ensures.0 first.0 in (
      omega (arith, next, loop.invariant.0),
      λ T. none_at _ _ T _ _ _ _ _ _ _ _ _ arity.ensures.0 above.ensures.0 child-of.ensures.0 first.0
          nodes-at.ensures.0 word.ensures (loop.invariant.1 T) first-from.ensures.first if2.false,
    )

pub returns : goal.returns
returns c =
    let loop = c.loop-s in
    let loop-test = c.loop-s-test in
    record {
      from = tt;
      short = λ h. refl;
      first = λ T. none_end _ _ _ _ loop-test.false (loop.invariant.1 T);
    }
