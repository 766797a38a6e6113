-- The leaf is computed from the start of the floor's block; after the ring it is the number of all leaves.
use mathlib.Core.Path.{refl}
use native.Mathlib.Omega.{arith}
use Rattle.calendar_header.proofs.Leaves.{slot_most, ring_most, start_before, leaf_after, leaf_read}
use Rattle.calendar_header.proofs.leaf.Goals as goal

pub returns-then-word-time : goal.returns-then-word-time
returns-then-word-time c =
    let args = c.args in
    let block-leaves = c.block_leaves-n in record {
      within = omega (arith, block-leaves.ensures.0);
      leaf = λ a ea H f. leaf_after a args.b.now ea H args.time f c.word.result block-leaves.result c.word.ensures
          block-leaves.ensures.0 c.if-word-time.true;
    }

pub returns-then-time-start : goal.returns-then-time-start
returns-then-time-start c =
    let args = c.args in
    let block-leaves = c.block_leaves-n in record {
      within = omega (arith, block-leaves.ensures.0);
      leaf = λ a ea H f. absurd (omega (arith, start_before a args.b.now ea H args.time f, c.word-start.ensures, c.if-time-start.true));
    }

pub overflow_mul-result : goal.overflow_mul-result
overflow_mul-result c =
    let block-leaves = c.block_leaves-n in
    omega (arith, slot_most c.word-2.result block-leaves.result block-leaves.ensures.2, block-leaves.ensures.2)

pub overflow_add-result : goal.overflow_add-result
overflow_add-result c =
    let block-leaves = c.block_leaves-n in
    omega (arith, slot_most c.word-2.result block-leaves.result block-leaves.ensures.2, block-leaves.ensures.2)

pub returns : goal.returns
returns c =
    let args = c.args in
    let block-leaves = c.block_leaves-n in
    let word = c.word in
    let if1 = c.if-word-time in
    let word2 = c.word-start in
    let word3 = c.word-width in record {
      within = ring_most _ block-leaves.result _ block-leaves.ensures.1 block-leaves.ensures.0;
      leaf = λ a ea H f. leaf_read a args.b.now ea H args.time f word.result block-leaves.result word.ensures block-leaves.ensures.0
          c.word-2.result word2.result word3.result _ c.word-2.ensures word2.ensures word3.ensures refl if1.false;
    }
