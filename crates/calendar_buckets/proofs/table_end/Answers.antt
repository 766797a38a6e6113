-- The bytes of the row's shape.
use mathlib.Core.Path.{refl}
use native.Mathlib.Omega.{arith}
use Rattle.calendar_buckets.proofs.Clears.{right_most}
use Rattle.calendar_buckets.proofs.table_end.Goals as goal

pub overflow_mul-end : goal.overflow_mul-end
overflow_mul-end c = let m = right_most _ _ c.row-q.ensures in omega (arith, m)

pub overflow_add-end : goal.overflow_add-end
overflow_add-end c = let m = right_most _ _ c.row-q.ensures in omega (arith, m)

pub overflow_mul-end-2 : goal.overflow_mul-end-2
overflow_mul-end-2 c = let m = right_most _ _ c.row-q.ensures in omega (arith, m)

pub overflow_add-end-2 : goal.overflow_add-end-2
overflow_add-end-2 c = let m = right_most _ _ c.row-q.ensures in omega (arith, m)

pub returns-then-len-end : goal.returns-then-len-end
returns-then-len-end c = let m = right_most _ _ c.row-q.ensures in (omega arith, λ l. refl, omega (arith, m.2))

pub returns : goal.returns
returns c = let m = right_most _ _ c.row-q.ensures in (omega arith, λ l. absurd (omega (arith, m.2)), omega (arith, m.2))
