-- The row of the bytes has the arity of its literal.
use native.Mathlib.Omega.{arith}
use Rattle.calendar_search.proofs.Laters.{later_short, later_row}
use Rattle.calendar_search.proofs.later.Goals as goal

pub returns-in-0 : goal.returns-in-0
returns-in-0 c =
    let later = c.later_in in
    record {
      from = later.ensures.from;
      short = later_short 0 later.ensures.short;
      first = later_row 0 _ _ _ _ c.word.ensures (omega arith) later.ensures.first;
    }

pub returns-in-1 : goal.returns-in-1
returns-in-1 c =
    let later = c.later_in-in-1 in
    record {
      from = later.ensures.from;
      short = later_short 1 later.ensures.short;
      first = later_row 1 _ _ _ _ c.word.ensures (omega arith) later.ensures.first;
    }

pub returns-in-2 : goal.returns-in-2
returns-in-2 c =
    let later = c.later_in-in-2 in
    record {
      from = later.ensures.from;
      short = later_short 2 later.ensures.short;
      first = later_row 2 _ _ _ _ c.word.ensures (omega arith) later.ensures.first;
    }

pub returns-in_default : goal.returns-in_default
returns-in_default c =
    let later = c.later_in-in_default in
    record {
      from = later.ensures.from;
      short = later_short 3 later.ensures.short;
      first = later_row 3 _ _ _ _ c.word.ensures (omega arith) later.ensures.first;
    }
