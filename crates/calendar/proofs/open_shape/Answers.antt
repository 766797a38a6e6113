-- Each refusal has its number, and an accepted buffer is cleared before its header is written.
use native.Mathlib.Omega.{arith}
use Rattle.calendar.proofs.Opening.{right_in, right_sizes, right_leaves, right_clears, open_narrow, open_wide, open_none, open_many, open_short, open_done}
use Rattle.calendar.proofs.open_shape.Goals as goal

pub returns-then-width-eq0 : goal.returns-then-width-eq0
returns-then-width-eq0 c =
    let args = c.args in
    let pre = c.requires in
    open_narrow args.b.now args.n args.shape.arity args.width (right_in args.row args.shape pre.0 pre.1) c.if-width-eq0.true

pub returns-then-width-gt1048576 : goal.returns-then-width-gt1048576
returns-then-width-gt1048576 c =
    let args = c.args in
    let pre = c.requires in
    open_wide args.b.now args.n args.shape.arity args.width (right_in args.row args.shape pre.0 pre.1)
    c.if-width-eq0.false c.if-width-gt1048576.true

pub returns-then-n-eq0 : goal.returns-then-n-eq0
returns-then-n-eq0 c =
    let args = c.args in
    let pre = c.requires in
    open_none args.b.now args.n args.shape.arity args.width (right_in args.row args.shape pre.0 pre.1)
    c.if-width-eq0.false c.if-width-gt1048576.false c.if-n-eq0.true

pub returns-then-n-gt256 : goal.returns-then-n-gt256
returns-then-n-gt256 c =
    let args = c.args in
    let pre = c.requires in
    let if1 = c.if-width-eq0 in
    open_many args.b.now args.n args.shape.arity args.width (right_in args.row args.shape pre.0 pre.1) if1.false
    c.if-width-gt1048576.false c.if-n-eq0.false c.if-n-gt256.true

pub overflow_mul-leaves : goal.overflow_mul-leaves
overflow_mul-leaves c =
    let args = c.args in
    let pre = c.requires in
    omega (arith, right_leaves args.row args.shape pre.0 pre.1)

pub overflow_add-leaves : goal.overflow_add-leaves
overflow_add-leaves c =
    let args = c.args in
    let pre = c.requires in
    omega (arith, right_leaves args.row args.shape pre.0 pre.1, c.if-n-gt256.false)

pub returns-then-b-leaves : goal.returns-then-b-leaves
returns-then-b-leaves c =
    let args = c.args in
    let pre = c.requires in
    let if1 = c.if-width-eq0 in
    let if2 = c.if-width-gt1048576 in
    open_short args.b.now args.n args.shape.arity args.width (right_in args.row args.shape pre.0 pre.1) if1.false
    if2.false c.if-n-eq0.false c.if-n-gt256.false args.shape.leaves pre.1.leaves_is c.if-b-leaves.true

pub begin-requires : goal.begin-requires
begin-requires c =
    let args = c.args in
    let pre = c.requires in
    let if2 = c.if-width-gt1048576 in
    let if4 = c.if-n-gt256 in
    (if4.false, if2.false, right_leaves args.row args.shape pre.0 pre.1)

pub returns : goal.returns
returns c =
    let args = c.args in
    let pre = c.requires in
    let if1 = c.if-width-eq0 in
    let if2 = c.if-width-gt1048576 in
    let if3 = c.if-n-eq0 in
    let if4 = c.if-n-gt256 in
    let if5 = c.if-b-leaves in
    let clear = c.clear in
    let begin = c.begin in
    open_done args.b.now args.n args.shape.arity args.width (right_in args.row args.shape pre.0 pre.1) if1.false
    if2.false if3.false if4.false args.shape.leaves pre.1.leaves_is if5.false (right_sizes args.row args.shape pre.0 pre.1)
    clear.new.b begin.new.b (right_clears args.row args.shape args.b.now clear.new.b pre.0 pre.1 clear.ensures)
    begin.ensures
