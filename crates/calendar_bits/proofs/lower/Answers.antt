-- The row that is a literal is one with the row modulo 4.
use native.Mathlib.Omega.{arith}
use Rattle.calendar_bits.proofs.Refreshes.{by_row, none_by_row, last_row}
use Rattle.calendar_bits.proofs.lower.Goals as goal

pub returns-in-0 : goal.returns-in-0
returns-in-0 c =
    let f = c.lower_in.ensures in
    record { lowered = by_row 0 _ _ _ _ _ c.in-0.is f.lowered; none = none_by_row 0 _ _ _ _ c.in-0.is f.none }

pub returns-in-1 : goal.returns-in-1
returns-in-1 c =
    let f = c.lower_in-in-1.ensures in
    record { lowered = by_row 1 _ _ _ _ _ c.in-1.is f.lowered; none = none_by_row 1 _ _ _ _ c.in-1.is f.none }

pub returns-in-2 : goal.returns-in-2
returns-in-2 c =
    let f = c.lower_in-in-2.ensures in
    record { lowered = by_row 2 _ _ _ _ _ c.in-2.is f.lowered; none = none_by_row 2 _ _ _ _ c.in-2.is f.none }

pub returns-in_default : goal.returns-in_default
returns-in_default c =
    let f = c.lower_in-in_default.ensures in
    let e = last_row c.args.row (λ e. omega arith) (λ e. omega arith) (λ e. omega arith) in
    record { lowered = by_row 3 _ _ _ _ _ e f.lowered; none = none_by_row 3 _ _ _ _ e f.none }
