-- The table has the arity or not, then the tests in order.
use native.Mathlib.Omega.{arith}
use Rattle.engine_opening.proofs.Choice.{leaves_most, missing, narrow, wide, few, many, short, enough}
use Rattle.engine_opening.proofs.judge_choice.Goals as goal

pub returns-in_default : goal.returns-in_default
returns-in_default c = let a = c.args in missing a.n a.arity a.width a.capacity a.bytes (rw c.in_default.is at c.shape_of.ensures)

pub returns-then-width-lt1 : goal.returns-then-width-lt1
returns-then-width-lt1 c =
    let a = c.args in
    narrow a.n a.arity a.width a.capacity a.bytes c.in-Some.ensures c.if-width-lt1.true

pub returns-then-width-gt1048576 : goal.returns-then-width-gt1048576
returns-then-width-gt1048576 c =
    let a = c.args in
    wide a.n a.arity a.width a.capacity a.bytes c.in-Some.ensures (omega arith) c.if-width-gt1048576.true

pub returns-then-capacity-lt2 : goal.returns-then-capacity-lt2
returns-then-capacity-lt2 c =
    let a = c.args in
    few a.n a.arity a.width a.capacity a.bytes c.in-Some.ensures (omega arith) (omega arith) c.if-capacity-lt2.true

pub returns-then-capacity-gt4096 : goal.returns-then-capacity-gt4096
returns-then-capacity-gt4096 c =
    let a = c.args in
    many a.n a.arity a.width a.capacity a.bytes c.in-Some.ensures (omega arith) (omega arith) (omega arith) c.if-capacity-gt4096.true

pub returns-then-bytes-shape : goal.returns-then-bytes-shape
returns-then-bytes-shape c =
    let a = c.args in
    short a.n a.arity a.width a.capacity a.bytes c.in-Some.ensures (omega arith) (omega arith) (omega arith) (omega arith) c.if-bytes-shape.true

pub returns : goal.returns
returns c =
    let a = c.args in
    enough a.n a.arity a.width a.capacity a.bytes c.in-Some.ensures (omega arith) (omega arith) (omega arith) (omega arith) c.if-bytes-shape.false

pub overflow_mul-shape : goal.overflow_mul-shape
overflow_mul-shape c = omega (arith, leaves_most c.in-Some.ensures)

pub overflow_add-shape : goal.overflow_add-shape
overflow_add-shape c = omega (arith, leaves_most c.in-Some.ensures)

pub overflow_add-shape-2 : goal.overflow_add-shape-2
overflow_add-shape-2 c = omega (arith, leaves_most c.in-Some.ensures)
