-- The station stays where the ring does not cover its time, and else goes to its leaf.
use native.Mathlib.Omega.{arith}
use Rattle.calendar_floor.proofs.Fetching.{not_absent, fetch_floor, moved_none, moved_put}
use Rattle.calendar_floor.proofs.fetch.Goals as goal

pub returns-then-due-eq0 : goal.returns-then-due-eq0
returns-then-due-eq0 c =
    let args = c.args in
    let pre = c.requires in
    λ a S W. absurd (not_absent a args.b.now args.s c.due-due.result 0 pre S W (c.due-due.ensures.0 pre) c.if-due-eq0.true)

pub returns-then-block_leaves-l : goal.returns-then-block_leaves-l
returns-then-block_leaves-l c =
    let pre = c.requires in
    let args = c.args in
    let due = c.due-due in
    let leaf = c.leaf-l in
    λ a S W.
    let ed = due.ensures.0 pre in
    let el = leaf.ensures.leaf a S.table.arity_is S.header (fetch_floor a args.b.now args.s due.result leaf.result pre S W ed) in
    moved_none a args.b.now args.s due.result leaf.result pre S W ed el c.block_leaves.result
    c.block_leaves.ensures.0 c.if-block_leaves-l.true

pub returns : goal.returns
returns c =
    let pre = c.requires in
    let args = c.args in
    let due = c.due-due in
    let leaf = c.leaf-l in
    let put = c.put in
    λ a S W.
    let ed = due.ensures.0 pre in
    let el = leaf.ensures.leaf a S.table.arity_is S.header (fetch_floor a args.b.now args.s due.result leaf.result pre S W ed) in
    let nz = not_absent a args.b.now args.s due.result leaf.result pre S W ed in
    moved_put a args.b.now args.s due.result leaf.result pre S W ed el put.new.b put.ensures.kept
    (put.ensures.placed a S.table pre (omega arith) (omega (arith, S.table.until args.s pre)))
