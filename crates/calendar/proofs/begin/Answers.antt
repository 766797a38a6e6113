-- The header's words are written one after the other.
use native.Mathlib.Omega.{arith}
use Rattle.calendar_header.proofs.Leaves.{span_most}
use Rattle.calendar.proofs.Opening.{ring_fits, begun}
use Rattle.calendar.proofs.begin.Goals as goal

pub overflow_mul-width : goal.overflow_mul-width
overflow_mul-width c =
    let args = c.args in
    let pre = c.requires in
    omega (arith, span_most args.width args.leaves pre.1 pre.2)

pub overflow_mul-width-2 : goal.overflow_mul-width-2
overflow_mul-width-2 c =
    let args = c.args in
    let pre = c.requires in
    omega (arith, ring_fits args.width args.leaves pre.1 pre.2)

pub returns : goal.returns
returns c =
    let args = c.args in
    let pre = c.requires in
    let set_word = c.set_word in
    let set-word2 = c.set_word-2 in
    let set-word3 = c.set_word-3 in
    let set-word4 = c.set_word-4 in
    let set-word5 = c.set_word-5 in
    let set-word6 = c.set_word-6 in
    let set-word7 = c.set_word-7 in
    begun args.b.now set_word.new.b set-word2.new.b set-word3.new.b set-word4.new.b set-word5.new.b set-word6.new.b
    set-word7.new.b args.n args.width args.leaves pre.0 pre.1 pre.2 set_word.ensures set-word2.ensures set-word3.ensures
    set-word4.ensures set-word5.ensures set-word6.ensures set-word7.ensures
