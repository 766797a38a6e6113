-- The first child of the root word, and the first child of that node's word.
use native.Mathlib.Omega.{arith}
use Rattle.calendar_search.proofs.Firsts.{leaf_at}
use Rattle.calendar_search.proofs.leaf_in.Goals as goal

pub overflow_add-j : goal.overflow_add-j
overflow_add-j c =
    let first = c.below.ensures.fits (omega arith) in
    omega (arith, first.1, c.first_child.ensures.within)

pub overflow_add-nodes_at : goal.overflow_add-nodes_at
overflow_add-nodes_at c =
    let first = c.below.ensures.fits (omega arith) in
    omega (arith, first.1, c.first_child.ensures.within, c.nodes_at.ensures.1)

pub overflow_add-result : goal.overflow_add-result
overflow_add-result c =
    let first-child = c.first_child in
    let first = c.below.ensures.fits (omega arith) in
    let second = c.below-2.ensures.fits (omega (arith, first.1, first-child.ensures.within)) in
    omega (arith, first.1, first-child.ensures.within, second.1, c.first_child-2.ensures.within)

pub returns : goal.returns
returns c =
    let first-child = c.first_child in
    let first = c.below.ensures.fits (omega arith) in
    let second = c.below-2.ensures.fits (omega (arith, first.1, first-child.ensures.within)) in
    let first-child2 = c.first_child-2 in record {
      within = omega (arith, first.1, first-child.ensures.within, second.1, first-child2.ensures.within);
      under = leaf_at _ _ _ _ _ _ _ _ _ _ _ c.arity-a.ensures.0 first-child.ensures.first c.nodes_at.ensures.0 first.0 c.word-y.ensures
          first-child2.ensures.first second.0;
    }
