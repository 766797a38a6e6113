-- The part from byte 64 on is filled with 0; where the table's end is at most there, nothing is to be cleared.
use native.Mathlib.Omega.{arith}
use mathlib.Core.Path.{◌∙◌}
use borrow.Rule.Slice.PartMut.{mid_len}
use Rattle.calendar_buckets.proofs.Clears.{wipe_start, wipe_part, wiped}
use Rattle.calendar_buckets.proofs.clear.Goals as goal

pub returns-then-end-gt64 : goal.returns-then-end-gt64
returns-then-end-gt64 c =
    let end = c.table_end-end in
    let vs = c.set_word.new.b in
    let part = wipe_part vs c.fill.new.self end.result _ (omega (arith, c.if-end-gt64.true)) end.ensures.0 (c.fill.ensures.len ∙ mid_len 64 end.result vs end.ensures.0) (c.fill.ensures.after (λ y e. e)) in
    wiped _ (omega arith) _ _ _ _ end.result c.set_word.ensures part end.ensures.2 (omega arith) end.ensures.1

pub returns-else-end-gt64 : goal.returns-else-end-gt64
returns-else-end-gt64 c =
    let end = c.table_end-end in
    wiped _ (omega arith) _ _ _ _ end.result c.set_word.ensures (wipe_start _) (omega arith) (omega (arith, c.if-end-gt64.false)) end.ensures.1
