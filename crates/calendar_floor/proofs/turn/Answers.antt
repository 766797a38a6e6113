-- The header's words are written one after the other, and then the overflow table is settled.
use Prim.Native.Nat.{◌*◌}
use native.Mathlib.Omega.{arith}
use native.Mathlib.Nat.{div-le_self}
use Rattle.calendar_header.proofs.Leaves.{span_most}
use Rattle.calendar_floor.proofs.Floor.{span_pos, start_fits, end_fits, limit_fits, risen_turned}
use Rattle.calendar_floor.proofs.turn.Goals as goal

pub returns-then-width-eq0 : goal.returns-then-width-eq0
returns-then-width-eq0 c =
    λ a S A up. absurd (omega (arith, c.word-width.ensures, S.header.width_pos))

pub returns-then-width-gt1048576 : goal.returns-then-width-gt1048576
returns-then-width-gt1048576 c =
    λ a S A up. absurd (omega (arith, c.word-width.ensures, S.header.width_most))

pub overflow_mul-span : goal.overflow_mul-span
overflow_mul-span c =
    let word = c.word-width in
    omega (arith, span_most word.result c.block_leaves.result c.if-width-gt1048576.false c.block_leaves.ensures.2)

pub nonzero_div-block : goal.nonzero_div-block
nonzero_div-block c =
    let if1 = c.if-width-eq0 in
    let word = c.word-width in
    omega (arith, span_pos word.result c.block_leaves.result if1.false c.block_leaves.ensures.1)

pub overflow_mul-block : goal.overflow_mul-block
overflow_mul-block c =
    let args = c.args in
    let pre = c.requires in
    let word = c.word-width in
    let if2 = c.if-width-gt1048576 in
    let block-leaves = c.block_leaves in
    omega (arith, start_fits args.floor word.result block-leaves.result pre if2.false block-leaves.ensures.2)

pub overflow_add-block : goal.overflow_add-block
overflow_add-block c =
    let args = c.args in
    let pre = c.requires in
    let word = c.word-width in
    let block-leaves = c.block_leaves in
    omega (arith, div-le_self args.floor (word.result * block-leaves.result), pre)

pub overflow_mul-block-2 : goal.overflow_mul-block-2
overflow_mul-block-2 c =
    let args = c.args in
    let pre = c.requires in
    let word = c.word-width in
    let if2 = c.if-width-gt1048576 in
    let block-leaves = c.block_leaves in
    omega (arith, end_fits args.floor word.result block-leaves.result pre if2.false block-leaves.ensures.2)

pub overflow_add-block-2 : goal.overflow_add-block-2
overflow_add-block-2 c =
    let args = c.args in
    let pre = c.requires in
    let word = c.word-width in
    let block-leaves = c.block_leaves in
    omega (arith, div-le_self args.floor (word.result * block-leaves.result), pre)

pub overflow_mul-block-3 : goal.overflow_mul-block-3
overflow_mul-block-3 c =
    let args = c.args in
    let pre = c.requires in
    let word = c.word-width in
    let if2 = c.if-width-gt1048576 in
    let block-leaves = c.block_leaves in
    omega (arith, limit_fits args.floor word.result block-leaves.result pre if2.false block-leaves.ensures.2)

pub returns : goal.returns
returns c =
    let args = c.args in
    let pre = c.requires in
    let word = c.word-width in
    let if2 = c.if-width-gt1048576 in
    let block-leaves = c.block_leaves in
    let set_word = c.set_word in
    let set-word2 = c.set_word-2 in
    let set-word3 = c.set_word-3 in
    let set-word4 = c.set_word-4 in
    let set-word5 = c.set_word-5 in
    let settle = c.settle in
    λ a S A up.
    risen_turned args.b.now set_word.new.b set-word2.new.b set-word3.new.b set-word4.new.b set-word5.new.b
    word.result block-leaves.result args.floor word.ensures block-leaves.ensures.0 pre if2.false block-leaves.ensures.2
    set_word.ensures set-word2.ensures set-word3.ensures set-word4.ensures set-word5.ensures a S A up settle.new.b
    (settle.ensures a)
